-- Items that are declared one after the other.
use Rattle.std.proofs.Common.{◌≡◌, ◌≤◌, List, [], ◌∷◌, ◌++◌, map, length, slice_get, Option, Some, None, refl, sym, ap, ◌∙◌, arith}
use Rattle.std.specs.Prelude.{filter_map}
use Rattle.std.proofs.lemmas.List.{map-append}
use Rattle.std.proofs.lemmas.List.Sums.{get_or-le-sum_by}
use Rattle.std.proofs.lemmas.Option.{get_or_from_slice_get, slice_get_within}
use Rattle.ir_syntax.specs.Counts.{counted, item_count}
use Rattle.ir_syntax.specs.Tree.{ItemTree, SourceFilename, DataLayout, TargetTriple, Struct, Variable, Alias, Declaration, Definition, Attributes, Metadata}
use Rattle.type_table.specs.Types.{structs, trees}
use Rattle.module_arena.specs.Lists.{Lists, no_lists, name_at}
use Rattle.module_arena.specs.Module.{Module}
use Rattle.module_arena.specs.Module as m
use Rattle.module_arena.specs.View.{module_of, variable_view, alias_view, function_view, constants_of}
use Rattle.module_arena.specs.WellFormed as formed
use Rattle.name_rules.specs.ModuleOf.{variable_of, variable_in, alias_of, alias_in, declared, defined, function_in}
use Rattle.item_build.specs.Types.Holding.{entries}
use Rattle.item_build.specs.Types.Declarations.{without_initialiser, without_target, AreUntargeted}
use Rattle.item_build.specs.Types.Parameters.{without_body}
use Rattle.item_build.specs.Declaring.{declared_in, with_entries, with_declared, AreNamed}
use Rattle.item_build.proofs.Walked.{gives_one, gives_none, get_between}
use Rattle.item_build.proofs.OnTypes.Made.{map_twice}

module _ {Y : Type 0} (h : ItemTree → Option Y) (f : Y → Y) (first : List ItemTree) (x : ItemTree) where
  one : (y : Y) → h x ≡ Some y → map f (filter_map h first) ++ f y ∷ [] ≡ map f (filter_map h (first ++ x ∷ []))
  one y is = sym (ap (map f) (gives_one h first x y is) ∙ map-append f (filter_map h first) (y ∷ []))

  none : h x ≡ None → map f (filter_map h first) ≡ map f (filter_map h (first ++ x ∷ []))
  none is = sym (ap (map f) (gives_none h first x is))

module _ (start : Module) (first : List ItemTree) where
  pub declared_more : (x : ItemTree) → declared_in (with_declared start first) x ≡ with_declared start (first ++ x ∷ [])
  declared_more (Variable v) = let x = Variable v in
      λ j. with_entries start (one variable_in without_initialiser first x (variable_of v) refl j) (none alias_in without_target first x refl j) (none function_in without_body first x refl j)
  declared_more (Alias a) = let x = Alias a in
      λ j. with_entries start (none variable_in without_initialiser first x refl j) (one alias_in without_target first x (alias_of a) refl j) (none function_in without_body first x refl j)
  declared_more (Declaration place head parameters variadic) = let x = Declaration place head parameters variadic in
      λ j. with_entries start (none variable_in without_initialiser first x refl j) (none alias_in without_target first x refl j) (one function_in without_body first x (declared head parameters variadic) refl j)
  declared_more (Definition place head parameters blocks) = let x = Definition place head parameters blocks in
      λ j. with_entries start (none variable_in without_initialiser first x refl j) (none alias_in without_target first x refl j) (one function_in without_body first x (defined head parameters blocks) refl j)
  declared_more (SourceFilename place text) = let x = SourceFilename place text in
      λ j. with_entries start (none variable_in without_initialiser first x refl j) (none alias_in without_target first x refl j) (none function_in without_body first x refl j)
  declared_more (DataLayout place text) = let x = DataLayout place text in
      λ j. with_entries start (none variable_in without_initialiser first x refl j) (none alias_in without_target first x refl j) (none function_in without_body first x refl j)
  declared_more (TargetTriple place text) = let x = TargetTriple place text in
      λ j. with_entries start (none variable_in without_initialiser first x refl j) (none alias_in without_target first x refl j) (none function_in without_body first x refl j)
  declared_more (Struct name body) = let x = Struct name body in
      λ j. with_entries start (none variable_in without_initialiser first x refl j) (none alias_in without_target first x refl j) (none function_in without_body first x refl j)
  declared_more (Attributes place) = let x = Attributes place in
      λ j. with_entries start (none variable_in without_initialiser first x refl j) (none alias_in without_target first x refl j) (none function_in without_body first x refl j)
  declared_more (Metadata place) = let x = Metadata place in
      λ j. with_entries start (none variable_in without_initialiser first x refl j) (none alias_in without_target first x refl j) (none function_in without_body first x refl j)

-- what is declared is called as the items are
pub declared_named : (a : Lists) (start : Module) (items : List ItemTree) → module_of a ≡ with_declared start items → AreNamed (module_of a) items
declared_named a start items same = ap formed.global_names same
    ∙ (λ j. map_twice without_initialiser (λ (v : m.Variable). v.name) (filter_map variable_in items) j
    ++ (map_twice without_target (λ (x : m.Alias). x.name) (filter_map alias_in items) j
    ++ map_twice without_body (λ (f : m.Function). f.name) (filter_map function_in items) j))

-- an arena without entries
pub nothing_declared : (a : Lists) → entries a ≡ no_lists → module_of a ≡ with_declared (module_of a) []
unfolding module_of
nothing_declared a empty = λ j. with_entries (module_of a)
    (map (variable_view (trees a.table) (constants_of a)) (ap (λ (w : Lists). w.variables) empty j))
    (map (alias_view (trees a.table) (name_at a)) (ap (λ (w : Lists). w.aliases) empty j))
    (map (function_view (trees a.table) (constants_of a)) (ap (λ (w : Lists). w.functions) empty j))

pub nothing_targeted : (a : Lists) → entries a ≡ no_lists → AreUntargeted 0 a
nothing_targeted a empty = λ id x le is. let no = sym (ap (λ (w : Lists). slice_get w.aliases id) empty) ∙ is in absurd cc

-- the structs stay
pub structs_kept : (a b : Lists) (vs : List m.Variable) (xs : List m.Alias) (fs : List m.Function) → module_of b ≡ with_entries (module_of a) vs xs fs → structs b.table ≡ structs a.table
unfolding module_of
structs_kept a b vs xs fs same = ap (λ (w : Module). w.structs) same

-- an item counts no more than all do
pub count_within : (first : List ItemTree) (x : ItemTree) (rest : List ItemTree) → item_count x ≤ counted (first ++ x ∷ rest)
count_within first x rest =
    let items = first ++ x ∷ rest in
    let here = get_between first x rest in
    let at = ap item_count (get_or_from_slice_get items (length first) x x here) in
    let le = get_or-le-sum_by item_count items (length first) x (slice_get_within items (length first) x here) in
    omega (arith, at, le)
