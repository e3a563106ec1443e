-- What the items of canonical text ask for holds.
use Rattle.std.specs.Prelude.{◌≡◌, refl, Bool, true, false, not, cond, bytes_eq, List, [], ◌∷◌, ◌++◌, map, filter_map, flat_map, Option, Some, None}
use Rattle.std.specs.List.{list_any, cons_option}
use Rattle.std.proofs.Common.{ap, sym, subst, ◌∙◌, append_assoc, append-nil}
use Rattle.std.proofs.lemmas.Bool.{and_parts, or_parts, not-true}
use Rattle.std.proofs.lemmas.List.{map-append}
use Rattle.std.proofs.lemmas.List.Elements.{filter_map-append}
use Rattle.std.proofs.lemmas.List.Folds.{list_any-append}
use Rattle.ir_base.specs.declared.place.Place.{Place}
use Rattle.ir_tables.specs.Table.{is_distinct}
use Rattle.ir_terminals.specs.declared.values.PlacedName.{PlacedName}
use Rattle.ir_syntax.specs.Tree.{ItemTree, SourceFilename, DataLayout, TargetTriple, Struct, Declaration, Definition, Attributes, Metadata}
use Rattle.ir_syntax.specs.Tree as item
use Rattle.type_table.specs.Tree.{Structs}
use Rattle.module_arena.specs.Module.{Bytes, Block, Variable, Alias, Function, Module}
use Rattle.canonical.specs.Items.Unplaced.{nowhere}
use Rattle.canonical.specs.Items.Items.{text_item, struct_item, variable_item, alias_item, function_item_by, function_item, canon_items}
use Rattle.canonical.proofs.OnModules.Modules.{filter_none, split}
use Rattle.name_rules.specs.ModuleOf.{first_of}
use Rattle.name_rules.specs.Demand.{Demand, is_first, is_new, place_of_name}
use Rattle.name_rules.specs.TypeDemands.{Known, is_global, type_demands, struct_type_demands}
use Rattle.name_rules.specs.FunctionDemands.{definition_demands}
use Rattle.name_rules.specs.Breaks.{struct_name, global_name, source_place, layout_place, triple_place, content_demands, alias_type_demands, item_demands, demands_behind}
use Rattle.canonical.proofs.OnReads.Asked.{Held, held_none, held_both, held_parts}

-- what an item asks for, wherever it stands
abbrev pub own_demands : Known → ItemTree → List Demand
own_demands known (SourceFilename place text) = []
own_demands known (DataLayout place text) = []
own_demands known (TargetTriple place text) = []
own_demands known (Struct name body) = struct_type_demands known name body
own_demands known (item.Variable v) = content_demands known v
own_demands known (item.Alias a) = alias_type_demands known a.ty ++ is_global known a.target ∷ []
own_demands known (Declaration place head ps variadic) = type_demands known head.returns ++ flat_map (type_demands known) ps
own_demands known (Definition place head ps bs) = type_demands known head.returns ++ definition_demands known ps bs
own_demands known (Attributes place) = []
own_demands known (Metadata place) = []

abbrev pub AllOwn : Known → List ItemTree → Type 0
AllOwn known [] = Unit {0}
AllOwn known (x ∷ xs) = Held (own_demands known x) × AllOwn known xs

pub own_both : (known : Known) (xs ys : List ItemTree) → AllOwn known xs → AllOwn known ys → AllOwn known (xs ++ ys)
own_both known [] ys h k = k
own_both known (x ∷ xs) ys h k = (h.0, own_both known xs ys h.1 k)

-- no more than one
abbrev pub is_single : {A : Type 0} → List A → Bool
is_single [] = true
is_single (a ∷ []) = true
is_single (a ∷ b ∷ more) = false

abbrev pub names : List PlacedName → List Bytes
names ns = map (λ (n : PlacedName). n.name) ns

-- what items define once
pub record IsOnce (xs : List ItemTree) : Type 0 where
  pub source : is_single (filter_map source_place xs) ≡ true
  pub layout : is_single (filter_map layout_place xs) ≡ true
  pub triple : is_single (filter_map triple_place xs) ≡ true
  pub structs : is_distinct bytes_eq (names (filter_map struct_name xs)) ≡ true
  pub globals : is_distinct bytes_eq (names (filter_map global_name xs)) ≡ true

behind_single : {A : Type 0} (before : List A) (a : A) (more : List A) → is_single (before ++ a ∷ more) ≡ true → first_of before ≡ None
behind_single [] a more e = refl
behind_single (b ∷ []) a more e = absurd cc
behind_single (b ∷ c ∷ before) a more e = absurd cc

first_held : (place : Place) (o : Option Place) → o ≡ None → Held (is_first place o)
first_held place o e = subst (λ p. Held (is_first place p)) (sym e) held_none

new_behind : (before : List PlacedName) (n : PlacedName) (more : List PlacedName) → is_distinct bytes_eq (names (before ++ n ∷ more)) ≡ true → place_of_name before n.name ≡ None
new_behind [] n more e = refl
new_behind (b ∷ before) n more e =
    let p = and_parts (not (list_any (bytes_eq b.name) (names (before ++ n ∷ more)))) (is_distinct bytes_eq (names (before ++ n ∷ more))) e in
    let q = not-true (list_any (bytes_eq b.name) (names (before ++ n ∷ more))) p.0 in
    let r = or_parts (list_any (bytes_eq b.name) (names before)) (list_any (bytes_eq b.name) (names (n ∷ more)))
    (sym (list_any-append (bytes_eq b.name) (names before) (names (n ∷ more))) ∙ ap (list_any (bytes_eq b.name)) (sym (map-append (λ (n : PlacedName). n.name) before (n ∷ more))) ∙ q) in
    let s = or_parts (bytes_eq b.name n.name) (list_any (bytes_eq b.name) (names more)) r.1 in
    ap (λ t. cond t (Some b.place) (place_of_name before n.name)) s.0 ∙ new_behind before n more p.1

module _ {A : Type 0} (kind : ItemTree → Option A) where
  at_item : (before : List ItemTree) (x : ItemTree) (xs : List ItemTree) (a : A) → kind x ≡ Some a → filter_map kind (before ++ x ∷ xs) ≡ filter_map kind before ++ a ∷ filter_map kind xs
  at_item before x xs a e = filter_map-append kind before (x ∷ xs) ∙ ap (λ o. filter_map kind before ++ cons_option o (filter_map kind xs)) e

single_at : (kind : ItemTree → Option Place) (before : List ItemTree) (x : ItemTree) (xs : List ItemTree) (place : Place) → kind x ≡ Some place → is_single (filter_map kind (before ++ x ∷ xs)) ≡ true → Held (is_first place (first_of (filter_map kind before)))
single_at kind before x xs place e h = first_held place (first_of (filter_map kind before)) (behind_single (filter_map kind before) place (filter_map kind xs) (ap is_single (sym (at_item kind before x xs place e)) ∙ h))

new_at : (kind : ItemTree → Option PlacedName) (before : List ItemTree) (x : ItemTree) (xs : List ItemTree) (n : PlacedName) → kind x ≡ Some n → is_distinct bytes_eq (names (filter_map kind (before ++ x ∷ xs))) ≡ true → Held (is_new (filter_map kind before) n)
new_at kind before x xs n e h = first_held n.place (place_of_name (filter_map kind before) n.name) (new_behind (filter_map kind before) n (filter_map kind xs) (ap (λ ns. is_distinct bytes_eq (names ns)) (sym (at_item kind before x xs n e)) ∙ h))

module _ (known : Known) where
  item_holds : (before : List ItemTree) (x : ItemTree) (xs : List ItemTree) → IsOnce (before ++ x ∷ xs) → Held (own_demands known x) → Held (item_demands known before x)
  item_holds before (SourceFilename place text) xs once h = single_at source_place before (SourceFilename place text) xs place refl once.source
  item_holds before (DataLayout place text) xs once h = single_at layout_place before (DataLayout place text) xs place refl once.layout
  item_holds before (TargetTriple place text) xs once h = single_at triple_place before (TargetTriple place text) xs place refl once.triple
  item_holds before (Struct name body) xs once h = held_both (new_at struct_name before (Struct name body) xs name refl once.structs) h
  item_holds before (item.Variable v) xs once h = held_both (new_at global_name before (item.Variable v) xs v.name refl once.globals) h
  item_holds before (item.Alias a) xs once h = held_both (new_at global_name before (item.Alias a) xs a.name refl once.globals) h
  item_holds before (Declaration place head ps variadic) xs once h =
      let p = held_parts (type_demands known head.returns) (flat_map (type_demands known) ps) h in
      held_both (held_both p.0 (new_at global_name before (Declaration place head ps variadic) xs head.name refl once.globals)) p.1
  item_holds before (Definition place head ps bs) xs once h =
      let p = held_parts (type_demands known head.returns) (definition_demands known ps bs) h in
      held_both (held_both p.0 (new_at global_name before (Definition place head ps bs) xs head.name refl once.globals)) p.1
  item_holds before (Attributes place) xs once h = held_none
  item_holds before (Metadata place) xs once h = held_none

  behind_hold : (before xs : List ItemTree) → IsOnce (before ++ xs) → AllOwn known xs → Held (demands_behind known before xs)
  behind_hold before [] once h = held_none
  behind_hold before (x ∷ xs) once h = held_both (item_holds before x xs once h.0) (behind_hold (before ++ x ∷ []) xs (subst IsOnce (sym (append_assoc before (x ∷ []) xs)) once) h.1)

  -- items that are there once, each of which asks for nothing in vain
  pub items_hold : (xs : List ItemTree) → IsOnce xs → AllOwn known xs → Held (demands_behind known [] xs)
  items_hold xs once h = behind_hold [] xs once h

-- ---- what is once in canonical items

abbrev source_item : Option Bytes → List ItemTree
source_item t = text_item (SourceFilename nowhere) t

abbrev layout_item : Option Bytes → List ItemTree
layout_item t = text_item (DataLayout nowhere) t

abbrev triple_item : Option Bytes → List ItemTree
triple_item t = text_item (TargetTriple nowhere) t

-- the place of a text that is there
abbrev one_place : Option Bytes → List Place
one_place None = []
one_place (Some t) = nowhere ∷ []

single_place : (t : Option Bytes) → is_single (one_place t) ≡ true
single_place None = refl
single_place (Some t) = refl

source_at_source : (t : Option Bytes) → filter_map source_place (source_item t) ≡ one_place t
source_at_source None = refl
source_at_source (Some t) = refl

source_at_layout : (t : Option Bytes) → filter_map source_place (layout_item t) ≡ []
source_at_layout None = refl
source_at_layout (Some t) = refl

source_at_triple : (t : Option Bytes) → filter_map source_place (triple_item t) ≡ []
source_at_triple None = refl
source_at_triple (Some t) = refl

source_at_function : (f : Function) (body : Option (List Block)) → source_place (function_item_by f body) ≡ None
source_at_function f None = refl
source_at_function f (Some bs) = refl

layout_at_source : (t : Option Bytes) → filter_map layout_place (source_item t) ≡ []
layout_at_source None = refl
layout_at_source (Some t) = refl

layout_at_layout : (t : Option Bytes) → filter_map layout_place (layout_item t) ≡ one_place t
layout_at_layout None = refl
layout_at_layout (Some t) = refl

layout_at_triple : (t : Option Bytes) → filter_map layout_place (triple_item t) ≡ []
layout_at_triple None = refl
layout_at_triple (Some t) = refl

layout_at_function : (f : Function) (body : Option (List Block)) → layout_place (function_item_by f body) ≡ None
layout_at_function f None = refl
layout_at_function f (Some bs) = refl

triple_at_source : (t : Option Bytes) → filter_map triple_place (source_item t) ≡ []
triple_at_source None = refl
triple_at_source (Some t) = refl

triple_at_layout : (t : Option Bytes) → filter_map triple_place (layout_item t) ≡ []
triple_at_layout None = refl
triple_at_layout (Some t) = refl

triple_at_triple : (t : Option Bytes) → filter_map triple_place (triple_item t) ≡ one_place t
triple_at_triple None = refl
triple_at_triple (Some t) = refl

triple_at_function : (f : Function) (body : Option (List Block)) → triple_place (function_item_by f body) ≡ None
triple_at_function f None = refl
triple_at_function f (Some bs) = refl

struct_at_source : (t : Option Bytes) → filter_map struct_name (source_item t) ≡ []
struct_at_source None = refl
struct_at_source (Some t) = refl

struct_at_layout : (t : Option Bytes) → filter_map struct_name (layout_item t) ≡ []
struct_at_layout None = refl
struct_at_layout (Some t) = refl

struct_at_triple : (t : Option Bytes) → filter_map struct_name (triple_item t) ≡ []
struct_at_triple None = refl
struct_at_triple (Some t) = refl

struct_at_function : (f : Function) (body : Option (List Block)) → struct_name (function_item_by f body) ≡ None
struct_at_function f None = refl
struct_at_function f (Some bs) = refl

global_at_source : (t : Option Bytes) → filter_map global_name (source_item t) ≡ []
global_at_source None = refl
global_at_source (Some t) = refl

global_at_layout : (t : Option Bytes) → filter_map global_name (layout_item t) ≡ []
global_at_layout None = refl
global_at_layout (Some t) = refl

global_at_triple : (t : Option Bytes) → filter_map global_name (triple_item t) ≡ []
global_at_triple None = refl
global_at_triple (Some t) = refl

abbrev placed : Bytes → PlacedName
placed n = record { name = n; place = nowhere }

structs_named : (ss : Structs) → names (filter_map struct_name (map struct_item ss)) ≡ map (λ s. s.0) ss
structs_named [] = refl
structs_named (s ∷ ss) = ap (λ rest. s.0 ∷ rest) (structs_named ss)

variables_named : (vs : List Variable) → names (filter_map global_name (map variable_item vs)) ≡ map (λ v. v.name) vs
variables_named [] = refl
variables_named (v ∷ vs) = ap (λ rest. v.name ∷ rest) (variables_named vs)

aliases_named : (as_ : List Alias) → names (filter_map global_name (map alias_item as_)) ≡ map (λ a. a.name) as_
aliases_named [] = refl
aliases_named (a ∷ as_) = ap (λ rest. a.name ∷ rest) (aliases_named as_)

function_named : (f : Function) (body : Option (List Block)) → global_name (function_item_by f body) ≡ Some (placed f.name)
function_named f None = refl
function_named f (Some bs) = refl

functions_named : (fs : List Function) → names (filter_map global_name (map function_item fs)) ≡ map (λ f. f.name) fs
functions_named [] = refl
functions_named (f ∷ fs) = (λ i. names (cons_option (function_named f f.body i) (filter_map global_name (map function_item fs)))) ∙ ap (λ rest. f.name ∷ rest) (functions_named fs)

module _ (m : Module) where
  source_all : filter_map source_place (canon_items m) ≡ one_place m.source ++ []
  source_all = split m source_place ∙ (λ i. source_at_source m.source i ++ (source_at_layout m.layout i ++ (source_at_triple m.triple i ++ (filter_none source_place struct_item (λ y. refl) m.structs i ++ (filter_none source_place variable_item (λ y. refl) m.variables i ++ (filter_none source_place alias_item (λ y. refl) m.aliases i ++ (filter_none source_place function_item (λ y. source_at_function y y.body) m.functions i)))))))

  layout_all : filter_map layout_place (canon_items m) ≡ one_place m.layout ++ []
  layout_all = split m layout_place ∙ (λ i. layout_at_source m.source i ++ (layout_at_layout m.layout i ++ (layout_at_triple m.triple i ++ (filter_none layout_place struct_item (λ y. refl) m.structs i ++ (filter_none layout_place variable_item (λ y. refl) m.variables i ++ (filter_none layout_place alias_item (λ y. refl) m.aliases i ++ (filter_none layout_place function_item (λ y. layout_at_function y y.body) m.functions i)))))))

  triple_all : filter_map triple_place (canon_items m) ≡ one_place m.triple ++ []
  triple_all = split m triple_place ∙ (λ i. triple_at_source m.source i ++ (triple_at_layout m.layout i ++ (triple_at_triple m.triple i ++ (filter_none triple_place struct_item (λ y. refl) m.structs i ++ (filter_none triple_place variable_item (λ y. refl) m.variables i ++ (filter_none triple_place alias_item (λ y. refl) m.aliases i ++ (filter_none triple_place function_item (λ y. triple_at_function y y.body) m.functions i)))))))

  struct_all : filter_map struct_name (canon_items m) ≡ filter_map struct_name (map struct_item m.structs) ++ []
  struct_all = split m struct_name ∙ (λ i. struct_at_source m.source i ++ (struct_at_layout m.layout i ++ (struct_at_triple m.triple i ++ (filter_map struct_name (map struct_item m.structs) ++ (filter_none struct_name variable_item (λ y. refl) m.variables i ++ (filter_none struct_name alias_item (λ y. refl) m.aliases i ++ (filter_none struct_name function_item (λ y. struct_at_function y y.body) m.functions i)))))))

  global_all : filter_map global_name (canon_items m) ≡ filter_map global_name (map variable_item m.variables) ++ (filter_map global_name (map alias_item m.aliases) ++ filter_map global_name (map function_item m.functions))
  global_all = split m global_name ∙ (λ i. global_at_source m.source i ++ (global_at_layout m.layout i ++ (global_at_triple m.triple i ++ (filter_none global_name struct_item (λ y. refl) m.structs i ++ (filter_map global_name (map variable_item m.variables) ++ (filter_map global_name (map alias_item m.aliases) ++ (filter_map global_name (map function_item m.functions))))))))

  -- the globals of canonical items
  pub globals_are : names (filter_map global_name (canon_items m)) ≡ map (λ v. v.name) m.variables ++ (map (λ a. a.name) m.aliases ++ map (λ f. f.name) m.functions)
  globals_are =
      ap names global_all
      ∙ map-append (λ (n : PlacedName). n.name) (filter_map global_name (map variable_item m.variables)) (filter_map global_name (map alias_item m.aliases) ++ filter_map global_name (map function_item m.functions))
      ∙ ap (λ rest. names (filter_map global_name (map variable_item m.variables)) ++ rest) (map-append (λ (n : PlacedName). n.name) (filter_map global_name (map alias_item m.aliases)) (filter_map global_name (map function_item m.functions)))
      ∙ (λ i. variables_named m.variables i ++ (aliases_named m.aliases i ++ functions_named m.functions i))

  pub once : is_distinct bytes_eq (map (λ s. s.0) m.structs) ≡ true → is_distinct bytes_eq (map (λ v. v.name) m.variables ++ (map (λ a. a.name) m.aliases ++ map (λ f. f.name) m.functions)) ≡ true → IsOnce (canon_items m)
  once structs globals = record {
    source = ap is_single (source_all ∙ append-nil (one_place m.source)) ∙ single_place m.source;
    layout = ap is_single (layout_all ∙ append-nil (one_place m.layout)) ∙ single_place m.layout;
    triple = ap is_single (triple_all ∙ append-nil (one_place m.triple)) ∙ single_place m.triple;
    structs = ap (λ ns. is_distinct bytes_eq (names ns)) (struct_all ∙ append-nil (filter_map struct_name (map struct_item m.structs))) ∙ ap (is_distinct bytes_eq) (structs_named m.structs) ∙ structs;
    globals = ap (is_distinct bytes_eq) globals_are ∙ globals;
  }
