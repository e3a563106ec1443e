-- What items ask for does not see places.
use Rattle.std.specs.Prelude.{◌≡◌, refl, is_some, List, [], ◌∷◌, ◌++◌, map, filter_map, Option, Some, None, option_map}
use Rattle.std.specs.List.{cons_option}
use Rattle.std.proofs.Common.{ap, sym, ◌∙◌}
use Rattle.std.proofs.lemmas.List.{map-append}
use Rattle.ir_base.specs.declared.place.Place.{Place}
use Rattle.ir_terminals.specs.declared.values.PlacedName.{PlacedName}
use Rattle.ir_phrases.specs.Constants.Tree.{TypeTree, ConstantTree}
use Rattle.ir_syntax.specs.Tree.{ItemTree, VariableTree, AliasTypeTree, PlainAlias, FunctionAlias, HeadTree, SourceFilename, DataLayout, TargetTriple, Struct, Variable, Alias, Declaration, Definition, Attributes, Metadata}
use Rattle.canonical.specs.Items.Unplaced.{nowhere, unplaced_name, unplaced_type, unplaced_constant, unplaced_variable, unplaced_alias_type, unplaced_head, unplaced}
use Rattle.canonical.proofs.OnModules.Places.{filter_unseen, struct_unseen}
use Rattle.name_rules.specs.ModuleOf.{first_of, struct_in}
use Rattle.name_rules.specs.Demand.{is_new, first_refusal}
use Rattle.name_rules.specs.TypeDemands.{Known, type_demands}
use Rattle.name_rules.specs.Measured.{struct_measures}
use Rattle.name_rules.specs.Breaks.{struct_name, global_name, source_place, layout_place, triple_place, known_in, initialiser_demands, content_demands, alias_type_demands, head_demands, item_demands, demands_behind, demands}
use Rattle.canonical.proofs.OnReads.Asked.{answers, Same, same_both, same_each, same_none}
use Rattle.canonical.proofs.OnReads.UnseenTypes.{same_first, new_unseen, type_asked, struct_asked, constant_at_asked}
use Rattle.canonical.proofs.OnReads.UnseenBodies.{alignment_asked, definition_asked}

-- ---- what was before

abbrev IsNameKind : (ItemTree → Option PlacedName) → Type 0
IsNameKind kind = (x : ItemTree) → kind (unplaced x) ≡ option_map unplaced_name (kind x)

cons_name : (o : Option PlacedName) (ns : List PlacedName) → cons_option (option_map unplaced_name o) (map unplaced_name ns) ≡ map unplaced_name (cons_option o ns)
cons_name None ns = refl
cons_name (Some n) ns = refl

names_before : (kind : ItemTree → Option PlacedName) → IsNameKind kind → (xs : List ItemTree) → filter_map kind (map unplaced xs) ≡ map unplaced_name (filter_map kind xs)
names_before kind h [] = refl
names_before kind h (x ∷ xs) = (λ i. cons_option (h x i) (names_before kind h xs i)) ∙ cons_name (kind x) (filter_map kind xs)

struct_kind : IsNameKind struct_name
struct_kind (SourceFilename place text) = refl
struct_kind (DataLayout place text) = refl
struct_kind (TargetTriple place text) = refl
struct_kind (Struct name body) = refl
struct_kind (Variable v) = refl
struct_kind (Alias a) = refl
struct_kind (Declaration place head ps variadic) = refl
struct_kind (Definition place head ps bs) = refl
struct_kind (Attributes place) = refl
struct_kind (Metadata place) = refl

global_kind : IsNameKind global_name
global_kind (SourceFilename place text) = refl
global_kind (DataLayout place text) = refl
global_kind (TargetTriple place text) = refl
global_kind (Struct name body) = refl
global_kind (Variable v) = refl
global_kind (Alias a) = refl
global_kind (Declaration place head ps variadic) = refl
global_kind (Definition place head ps bs) = refl
global_kind (Attributes place) = refl
global_kind (Metadata place) = refl

abbrev IsPlaceKind : (ItemTree → Option Place) → Type 0
IsPlaceKind kind = (x : ItemTree) → is_some (kind (unplaced x)) ≡ is_some (kind x)

first_found : (a b : Option Place) (as_ bs : List Place) → is_some a ≡ is_some b → is_some (first_of as_) ≡ is_some (first_of bs) → is_some (first_of (cons_option a as_)) ≡ is_some (first_of (cons_option b bs))
first_found None None as_ bs e f = f
first_found None (Some b) as_ bs e f = absurd cc
first_found (Some a) None as_ bs e f = absurd cc
first_found (Some a) (Some b) as_ bs e f = refl

place_before : (kind : ItemTree → Option Place) → IsPlaceKind kind → (xs : List ItemTree) → is_some (first_of (filter_map kind (map unplaced xs))) ≡ is_some (first_of (filter_map kind xs))
place_before kind h [] = refl
place_before kind h (x ∷ xs) = first_found (kind (unplaced x)) (kind x) (filter_map kind (map unplaced xs)) (filter_map kind xs) (h x) (place_before kind h xs)

source_kind : IsPlaceKind source_place
source_kind (SourceFilename place text) = refl
source_kind (DataLayout place text) = refl
source_kind (TargetTriple place text) = refl
source_kind (Struct name body) = refl
source_kind (Variable v) = refl
source_kind (Alias a) = refl
source_kind (Declaration place head ps variadic) = refl
source_kind (Definition place head ps bs) = refl
source_kind (Attributes place) = refl
source_kind (Metadata place) = refl

layout_kind : IsPlaceKind layout_place
layout_kind (SourceFilename place text) = refl
layout_kind (DataLayout place text) = refl
layout_kind (TargetTriple place text) = refl
layout_kind (Struct name body) = refl
layout_kind (Variable v) = refl
layout_kind (Alias a) = refl
layout_kind (Declaration place head ps variadic) = refl
layout_kind (Definition place head ps bs) = refl
layout_kind (Attributes place) = refl
layout_kind (Metadata place) = refl

triple_kind : IsPlaceKind triple_place
triple_kind (SourceFilename place text) = refl
triple_kind (DataLayout place text) = refl
triple_kind (TargetTriple place text) = refl
triple_kind (Struct name body) = refl
triple_kind (Variable v) = refl
triple_kind (Alias a) = refl
triple_kind (Declaration place head ps variadic) = refl
triple_kind (Definition place head ps bs) = refl
triple_kind (Attributes place) = refl
triple_kind (Metadata place) = refl

new_behind : (kind : ItemTree → Option PlacedName) → IsNameKind kind → (before : List ItemTree) (n : PlacedName) → Same (is_new (filter_map kind (map unplaced before)) (unplaced_name n)) (is_new (filter_map kind before) n)
new_behind kind h before n = ap (λ ns. answers (is_new ns (unplaced_name n))) (names_before kind h before) ∙ new_unseen (filter_map kind before) n

-- ---- items

module _ (known : Known) where
  initialiser_asked : (t : TypeTree) (c : Option ConstantTree) → Same (initialiser_demands known (unplaced_type t) (option_map unplaced_constant c)) (initialiser_demands known t c)
  initialiser_asked t None = refl
  initialiser_asked t (Some c) = constant_at_asked known t c

  content_asked : (v : VariableTree) → Same (content_demands known (unplaced_variable v)) (content_demands known v)
  content_asked v =
      same_both (type_demands known (unplaced_type v.ty)) (type_demands known v.ty) _ _ (type_asked known v.ty)
      (same_both (initialiser_demands known (unplaced_type v.ty) (option_map unplaced_constant v.initialiser)) (initialiser_demands known v.ty v.initialiser) _ _ (initialiser_asked v.ty v.initialiser) (alignment_asked v.alignment))

  alias_type_asked : (t : AliasTypeTree) → Same (alias_type_demands known (unplaced_alias_type t)) (alias_type_demands known t)
  alias_type_asked (PlainAlias t) = type_asked known t
  alias_type_asked (FunctionAlias t ts variadic) = same_both (type_demands known (unplaced_type t)) (type_demands known t) _ _ (type_asked known t) (same_each (type_demands known) unplaced_type (type_asked known) ts)

  head_asked : (before : List ItemTree) (h : HeadTree) → Same (head_demands known (filter_map global_name (map unplaced before)) (unplaced_head h)) (head_demands known (filter_map global_name before) h)
  head_asked before h = same_both (type_demands known (unplaced_type h.returns)) (type_demands known h.returns) _ _ (type_asked known h.returns) (new_behind global_name global_kind before h.name)

  item_asked : (before : List ItemTree) (x : ItemTree) → Same (item_demands known (map unplaced before) (unplaced x)) (item_demands known before x)
  item_asked before (SourceFilename place text) = same_first nowhere place (first_of (filter_map source_place (map unplaced before))) (first_of (filter_map source_place before)) (place_before source_place source_kind before)
  item_asked before (DataLayout place text) = same_first nowhere place (first_of (filter_map layout_place (map unplaced before))) (first_of (filter_map layout_place before)) (place_before layout_place layout_kind before)
  item_asked before (TargetTriple place text) = same_first nowhere place (first_of (filter_map triple_place (map unplaced before))) (first_of (filter_map triple_place before)) (place_before triple_place triple_kind before)
  item_asked before (Struct name body) =
      same_both (is_new (filter_map struct_name (map unplaced before)) (unplaced_name name)) (is_new (filter_map struct_name before) name) _ _ (new_behind struct_name struct_kind before name) (struct_asked known name body)
  item_asked before (Variable v) =
      same_both (is_new (filter_map global_name (map unplaced before)) (unplaced_name v.name)) (is_new (filter_map global_name before) v.name) _ _ (new_behind global_name global_kind before v.name) (content_asked v)
  item_asked before (Alias a) =
      same_both (is_new (filter_map global_name (map unplaced before)) (unplaced_name a.name)) (is_new (filter_map global_name before) a.name) _ _ (new_behind global_name global_kind before a.name)
      (same_both (alias_type_demands known (unplaced_alias_type a.ty)) (alias_type_demands known a.ty) _ _ (alias_type_asked a.ty) refl)
  item_asked before (Declaration place head ps variadic) =
      same_both (head_demands known (filter_map global_name (map unplaced before)) (unplaced_head head)) (head_demands known (filter_map global_name before) head) _ _ (head_asked before head) (same_each (type_demands known) unplaced_type (type_asked known) ps)
  item_asked before (Definition place head ps bs) =
      same_both (head_demands known (filter_map global_name (map unplaced before)) (unplaced_head head)) (head_demands known (filter_map global_name before) head) _ _ (head_asked before head) (definition_asked known ps bs)
  item_asked before (Attributes place) = refl
  item_asked before (Metadata place) = refl

  behind_asked : (before xs : List ItemTree) → Same (demands_behind known (map unplaced before) (map unplaced xs)) (demands_behind known before xs)
  behind_asked before [] = refl
  behind_asked before (x ∷ xs) =
      same_both (item_demands known (map unplaced before) (unplaced x)) (item_demands known before x) _ _ (item_asked before x)
      (ap (λ b. answers (demands_behind known b (map unplaced xs))) (sym (map-append unplaced before (x ∷ []))) ∙ behind_asked (before ++ x ∷ []) xs)

same_globals : (ns : List PlacedName) → map (λ (n : PlacedName). n.name) (map unplaced_name ns) ≡ map (λ (n : PlacedName). n.name) ns
same_globals [] = refl
same_globals (n ∷ ns) = ap (λ rest. n.name ∷ rest) (same_globals ns)

known_unseen : (xs : List ItemTree) → known_in (map unplaced xs) ≡ known_in xs
known_unseen xs = λ i. record {
  structs = filter_unseen struct_in unplaced struct_unseen xs i;
  measures = struct_measures (filter_unseen struct_in unplaced struct_unseen xs i);
  globals = (ap (λ ns. map (λ (n : PlacedName). n.name) ns) (names_before global_name global_kind xs) ∙ same_globals (filter_map global_name xs)) i;
}

-- whether what items ask for holds does not see places
pub demands_unseen : (xs : List ItemTree) → Same (demands (map unplaced xs)) (demands xs)
demands_unseen xs = ap (λ k. answers (demands_behind k [] (map unplaced xs))) (known_unseen xs) ∙ behind_asked (known_in xs) [] xs

pub unasked : (xs : List ItemTree) → first_refusal (demands (map unplaced xs)) ≡ None → first_refusal (demands xs) ≡ None
unasked xs h = same_none (demands (map unplaced xs)) (demands xs) (demands_unseen xs) h
