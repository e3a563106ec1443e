-- Where nothing that items ask for fails, the structs and the globals of their module have distinct names.
use Rattle.std.specs.Prelude.{◌≡◌, refl, List, [], ◌∷◌, ◌++◌, filter_map, bytes_eq, true, Option, Some, None}
use Rattle.std.specs.List.{cons_option, flat_map}
use Rattle.std.proofs.Common.{subst}
use Rattle.std.proofs.lemmas.List.{append-nil}
use Rattle.std.proofs.lemmas.List.Elements.{filter_map-append}
use Rattle.ir_base.specs.declared.place.Place.{Place}
use Rattle.ir_terminals.specs.declared.values.PlacedName.{PlacedName}
use Rattle.ir_tables.specs.Table.{is_distinct}
use Rattle.ir_syntax.specs.Tree.{ItemTree, HeadTree, SourceFilename, DataLayout, TargetTriple, Struct, Variable, Alias, Declaration, Definition, Attributes, Metadata}
use Rattle.name_rules.specs.Demand.{first_refusal, is_first, is_new, place_of_name}
use Rattle.name_rules.specs.TypeDemands.{Known, is_global, type_demands, struct_type_demands}
use Rattle.name_rules.specs.FunctionDemands.{definition_demands}
use Rattle.name_rules.specs.Breaks.{struct_name, global_name, item_demands, demands_behind, head_demands, content_demands, alias_type_demands}
use Rattle.name_rules.proofs.Judging.{both_hold}
use Rattle.name_rules.proofs.Distinct.{AreNew, names, new_distinct}

-- nothing was there
pub none_there : (place : Place) (earlier : Option Place) → first_refusal (is_first place earlier) ≡ None → earlier ≡ None
none_there place None e = refl
none_there place (Some p) e = absurd cc

add : (before : List PlacedName) (o : Option PlacedName) (more : List PlacedName) → ((n : PlacedName) → o ≡ Some n → place_of_name before n.name ≡ None)
    → AreNew (before ++ cons_option o []) more → AreNew before (cons_option o more)
add before None more new rest = subst (λ b. AreNew b more) (append-nil before) rest
add before (Some n) more new rest = (new n refl, rest)

same_name : (a b : PlacedName) → Some a ≡ Some b → a.name ≡ b.name
same_name a b e = cc

module _ (known : Known) (kind : ItemTree → Option PlacedName) (here : (before : List ItemTree) (item : ItemTree) → first_refusal (item_demands known before item) ≡ None → (n : PlacedName) → kind item ≡ Some n → place_of_name (filter_map kind before) n.name ≡ None) where
  all_new : (before items : List ItemTree) → first_refusal (demands_behind known before items) ≡ None → AreNew (filter_map kind before) (filter_map kind items)
  all_new before [] e = tt
  all_new before (item ∷ more) e =
      let parts = both_hold (item_demands known before item) (demands_behind known (before ++ item ∷ []) more) e in
      let rest = all_new (before ++ item ∷ []) more parts.1 in
      add (filter_map kind before) (kind item) (filter_map kind more) (here before item parts.0)
      (subst (λ b. AreNew b (filter_map kind more)) (filter_map-append kind before (item ∷ [])) rest)

module _ (known : Known) where
  struct_here : (before : List ItemTree) (item : ItemTree) → first_refusal (item_demands known before item) ≡ None → (n : PlacedName) → struct_name item ≡ Some n → place_of_name (filter_map struct_name before) n.name ≡ None
  struct_here before (Struct name body) e n q =
      let new = none_there name.place (place_of_name (filter_map struct_name before) name.name) (both_hold (is_new (filter_map struct_name before) name) (struct_type_demands known name body) e).0 in
      subst (λ x. place_of_name (filter_map struct_name before) x ≡ None) (same_name name n q) new
  struct_here before (SourceFilename place text) e n q = absurd cc
  struct_here before (DataLayout place text) e n q = absurd cc
  struct_here before (TargetTriple place text) e n q = absurd cc
  struct_here before (Variable variable) e n q = absurd cc
  struct_here before (Alias alias) e n q = absurd cc
  struct_here before (Declaration place head parameters variadic) e n q = absurd cc
  struct_here before (Definition place head parameters blocks) e n q = absurd cc
  struct_here before (Attributes place) e n q = absurd cc
  struct_here before (Metadata place) e n q = absurd cc

  head_here : (before : List ItemTree) (head : HeadTree) → first_refusal (head_demands known (filter_map global_name before) head) ≡ None → (n : PlacedName) → Some head.name ≡ Some n
      → place_of_name (filter_map global_name before) n.name ≡ None
  head_here before head e n q =
      let new = none_there head.name.place (place_of_name (filter_map global_name before) head.name.name) (both_hold (type_demands known head.returns) (is_new (filter_map global_name before) head.name) e).1 in
      subst (λ x. place_of_name (filter_map global_name before) x ≡ None) (same_name head.name n q) new

  global_here : (before : List ItemTree) (item : ItemTree) → first_refusal (item_demands known before item) ≡ None → (n : PlacedName) → global_name item ≡ Some n → place_of_name (filter_map global_name before) n.name ≡ None
  global_here before (Struct name body) e n q = absurd cc
  global_here before (SourceFilename place text) e n q = absurd cc
  global_here before (DataLayout place text) e n q = absurd cc
  global_here before (TargetTriple place text) e n q = absurd cc
  global_here before (Variable variable) e n q =
      let new = none_there variable.name.place (place_of_name (filter_map global_name before) variable.name.name) (both_hold (is_new (filter_map global_name before) variable.name) (content_demands known variable) e).0 in
      subst (λ x. place_of_name (filter_map global_name before) x ≡ None) (same_name variable.name n q) new
  global_here before (Alias alias) e n q =
      let new = none_there alias.name.place (place_of_name (filter_map global_name before) alias.name.name) (both_hold (is_new (filter_map global_name before) alias.name) (alias_type_demands known alias.ty ++ is_global known alias.target ∷ []) e).0 in
      subst (λ x. place_of_name (filter_map global_name before) x ≡ None) (same_name alias.name n q) new
  global_here before (Declaration place head parameters variadic) e n q = head_here before head (both_hold (head_demands known (filter_map global_name before) head) (flat_map (type_demands known) parameters) e).0 n q
  global_here before (Definition place head parameters blocks) e n q = head_here before head (both_hold (head_demands known (filter_map global_name before) head) (definition_demands known parameters blocks) e).0 n q
  global_here before (Attributes place) e n q = absurd cc
  global_here before (Metadata place) e n q = absurd cc

  pub structs_distinct : (items : List ItemTree) → first_refusal (demands_behind known [] items) ≡ None → is_distinct bytes_eq (names (filter_map struct_name items)) ≡ true
  structs_distinct items e = new_distinct [] (filter_map struct_name items) (all_new known struct_name struct_here [] items e)

  pub globals_distinct : (items : List ItemTree) → first_refusal (demands_behind known [] items) ≡ None → is_distinct bytes_eq (names (filter_map global_name items)) ≡ true
  globals_distinct items e = new_distinct [] (filter_map global_name items) (all_new known global_name global_here [] items e)
