-- Items whose entries are completed one after the other.
use Rattle.std.proofs.Common.{◌≡◌, ℕ, ◌+◌, List, [], ◌∷◌, ◌++◌, map, length, slice_get, Option, Some, None, refl, sym, ap, ◌∙◌, append_assoc, arith}
use Rattle.std.specs.Prelude.{filter_map, option_to_list}
use Rattle.std.specs.List.{cons_option}
use Rattle.std.specs.Option.{option_map}
use Rattle.std.proofs.lemmas.List.{map-append}
use Rattle.std.proofs.lemmas.List.Elements.{filter_map-append}
use Rattle.std.proofs.lemmas.Option.{slice_get-map}
use Rattle.ir_phrases.specs.Constants.Tree.{ConstantTree}
use Rattle.ir_syntax.specs.Tree.{VariableTree, ItemTree, SourceFilename, DataLayout, TargetTriple, Struct, Variable, Alias, Declaration, Definition, Attributes, Metadata}
use Rattle.type_table.specs.Types.{trees}
use Rattle.module_arena.specs.declared.entry.Variable as the_variable
use Rattle.module_arena.specs.Lists.{Lists}
use Rattle.module_arena.specs.Module.{Bytes, Module}
use Rattle.module_arena.specs.Module as m
use Rattle.module_arena.specs.View.{module_of, variable_view, constant_at, constants_of}
use Rattle.module_arena.specs.WellFormed as formed
use Rattle.module_arena.proofs.Found.{some-equal}
use Rattle.name_rules.specs.ModuleOf.{variable_of, variable_in, alias_of, alias_in}
use Rattle.name_rules.specs.Written.{type_in, constant_in}
use Rattle.item_build.specs.Types.Declarations.{without_initialiser, without_target}
use Rattle.item_build.specs.Declaring.{declared_variables, declared_aliases}
use Rattle.item_build.specs.Completing.{targeted_in, initialised_in, with_targets, with_initialisers}
use Rattle.item_build.proofs.Walked.{gives_one, gives_none, get_between, changed_between}

-- ---- names

module _ {Y : Type 0} (h : ItemTree → Option Y) (f : Y → Y) (name : Y → Bytes) (same : (y : Y) → name (f y) ≡ name y) where
  mapped_names : (ys : List Y) → map name (map f ys) ≡ map name ys
  mapped_names [] = refl
  mapped_names (y ∷ ys) = λ j. same y j ∷ mapped_names ys j

  pub mixed_names : (first rest : List ItemTree) → map name (filter_map h first ++ map f (filter_map h rest)) ≡ map name (map f (filter_map h (first ++ rest)))
  mixed_names first rest = map-append name (filter_map h first) (map f (filter_map h rest))
      ∙ ap (λ ns. map name (filter_map h first) ++ ns) (mapped_names (filter_map h rest))
      ∙ sym (map-append name (filter_map h first) (filter_map h rest))
      ∙ sym (ap (map name) (filter_map-append h first rest))
      ∙ sym (mapped_names (filter_map h (first ++ rest)))

abbrev with_aliases : Module → List m.Alias → Module
with_aliases w xs = record w { aliases = xs }

abbrev with_variables : Module → List m.Variable → Module
with_variables w vs = record w { variables = vs }

-- ---- targets

pub targets_named : (start : Module) (first rest : List ItemTree) → start.aliases ≡ declared_aliases (first ++ rest) → formed.global_names (with_targets start first rest) ≡ formed.global_names start
targets_named start first rest declared =
    let names = mixed_names alias_in without_target (λ (x : m.Alias). x.name) (λ x. refl) first rest ∙ sym (ap (map (λ (x : m.Alias). x.name)) declared) in
    λ j. map (λ (v : m.Variable). v.name) start.variables ++ (names j ++ map (λ (f : m.Function). f.name) start.functions)

-- no item is walked
pub no_targets : (start : Module) (items : List ItemTree) → start.aliases ≡ declared_aliases items → start ≡ with_targets start [] items
no_targets start items declared = λ j. with_aliases start (declared j)

pass_alias : (start : Module) (first rest : List ItemTree) (x : ItemTree) → alias_in x ≡ None → with_aliases start (filter_map alias_in first ++ declared_aliases rest) ≡ with_targets start (first ++ x ∷ []) rest
pass_alias start first rest x is = λ j. with_aliases start (sym (gives_none alias_in first x is) j ++ declared_aliases rest)

module _ (start : Module) (first rest : List ItemTree) where
  pub targets_more : (x : ItemTree) → targeted_in (with_targets start first (x ∷ rest)) (length (filter_map alias_in first)) x ≡ with_targets start (first ++ x ∷ []) rest
  targets_more (Alias a) =
      let front = filter_map alias_in first in
      let changed = changed_between front (without_target (alias_of a)) (declared_aliases rest) (λ (y : m.Alias). record y { target = a.target.name }) in
      let whole = sym (append_assoc front (alias_of a ∷ []) (declared_aliases rest)) ∙ ap (λ ys. ys ++ declared_aliases rest) (sym (gives_one alias_in first (Alias a) (alias_of a) refl)) in
      λ j. with_aliases start ((changed ∙ whole) j)
  targets_more (Variable v) = pass_alias start first rest (Variable v) refl
  targets_more (Declaration place head parameters variadic) = pass_alias start first rest (Declaration place head parameters variadic) refl
  targets_more (Definition place head parameters blocks) = pass_alias start first rest (Definition place head parameters blocks) refl
  targets_more (SourceFilename place text) = pass_alias start first rest (SourceFilename place text) refl
  targets_more (DataLayout place text) = pass_alias start first rest (DataLayout place text) refl
  targets_more (TargetTriple place text) = pass_alias start first rest (TargetTriple place text) refl
  targets_more (Struct name body) = pass_alias start first rest (Struct name body) refl
  targets_more (Attributes place) = pass_alias start first rest (Attributes place) refl
  targets_more (Metadata place) = pass_alias start first rest (Metadata place) refl

-- ---- initialisers

pub initialisers_named : (start : Module) (first rest : List ItemTree) → start.variables ≡ declared_variables (first ++ rest) → formed.global_names (with_initialisers start first rest) ≡ formed.global_names start
initialisers_named start first rest declared =
    let names = mixed_names variable_in without_initialiser (λ (v : m.Variable). v.name) (λ v. refl) first rest ∙ sym (ap (map (λ (v : m.Variable). v.name)) declared) in
    λ j. names j ++ (map (λ (x : m.Alias). x.name) start.aliases ++ map (λ (f : m.Function). f.name) start.functions)

-- no item is walked
pub no_initialisers : (start : Module) (items : List ItemTree) → start.variables ≡ declared_variables items → start ≡ with_initialisers start [] items
no_initialisers start items declared = λ j. with_variables start (declared j)

pass_variable : (start : Module) (first rest : List ItemTree) (x : ItemTree) → variable_in x ≡ None → with_variables start (filter_map variable_in first ++ declared_variables rest) ≡ with_initialisers start (first ++ x ∷ []) rest
pass_variable start first rest x is = λ j. with_variables start (sym (gives_none variable_in first x is) j ++ declared_variables rest)

module _ (start : Module) (first rest : List ItemTree) where
  -- a variable, where this initialiser is written
  abbrev initialised_as : VariableTree → Option ConstantTree → VariableTree
  initialised_as v o = record v { initialiser = o }

  one_more : (v : VariableTree) → filter_map variable_in first ++ variable_of v ∷ declared_variables rest ≡ filter_map variable_in (first ++ Variable v ∷ []) ++ declared_variables rest
  one_more v = sym (append_assoc (filter_map variable_in first) (variable_of v ∷ []) (declared_variables rest)) ∙ ap (λ ys. ys ++ declared_variables rest) (sym (gives_one variable_in first (Variable v) (variable_of v) refl))

  variable_more : (v : VariableTree) (o : Option ConstantTree) → let x = Variable (initialised_as v o) in initialised_in (with_initialisers start first (x ∷ rest)) (length (filter_map variable_in first)) x ≡ with_initialisers start (first ++ x ∷ []) rest
  variable_more v None = λ j. with_variables start (one_more (initialised_as v None) j)
  variable_more v (Some c) =
      let w = initialised_as v (Some c) in
      let changed = changed_between (filter_map variable_in first) (without_initialiser (variable_of w)) (declared_variables rest) (λ (y : m.Variable). record y { initialiser = Some (constant_in (type_in v.ty) c) }) in
      λ j. with_variables start ((changed ∙ one_more w) j)

  pub initialisers_more : (x : ItemTree) → initialised_in (with_initialisers start first (x ∷ rest)) (length (filter_map variable_in first)) x ≡ with_initialisers start (first ++ x ∷ []) rest
  initialisers_more (Variable v) = variable_more v v.initialiser
  initialisers_more (Alias a) = pass_variable start first rest (Alias a) refl
  initialisers_more (Declaration place head parameters variadic) = pass_variable start first rest (Declaration place head parameters variadic) refl
  initialisers_more (Definition place head parameters blocks) = pass_variable start first rest (Definition place head parameters blocks) refl
  initialisers_more (SourceFilename place text) = pass_variable start first rest (SourceFilename place text) refl
  initialisers_more (DataLayout place text) = pass_variable start first rest (DataLayout place text) refl
  initialisers_more (TargetTriple place text) = pass_variable start first rest (TargetTriple place text) refl
  initialisers_more (Struct name body) = pass_variable start first rest (Struct name body) refl
  initialisers_more (Attributes place) = pass_variable start first rest (Attributes place) refl
  initialisers_more (Metadata place) = pass_variable start first rest (Metadata place) refl

-- ---- the variable that is next has no initialiser yet

unset : (a : Lists) (v : the_variable.Variable) (w : m.Variable) → variable_view (trees a.table) (constants_of a) v ≡ without_initialiser w → v.initialiser ≡ None
unset a v w same = by v.initialiser (ap (λ (y : m.Variable). y.initialiser) same)
  where
    by : (o : Option ℕ) → option_map (constant_at (constants_of a)) o ≡ None → o ≡ None
    by None e = refl
    by (Some c) e = absurd cc

listed : (a : Lists) (k : ℕ) (v : the_variable.Variable) → slice_get a.variables k ≡ Some v → slice_get (module_of a).variables k ≡ Some (variable_view (trees a.table) (constants_of a) v)
unfolding module_of
listed a k v is = slice_get-map (variable_view (trees a.table) (constants_of a)) a.variables k ∙ ap (option_map (variable_view (trees a.table) (constants_of a))) is

pub next_is_unset : (a : Lists) (start : Module) (first rest : List ItemTree) (x : ItemTree) (number : ℕ) (v : the_variable.Variable) → module_of a ≡ with_initialisers start first (x ∷ rest) → number ≡ length (filter_map variable_in first)
    → number + length (option_to_list (variable_in x)) ≡ number + 1 → slice_get a.variables number ≡ Some v → v.initialiser ≡ None
next_is_unset a start first rest x number v same at one is = by (variable_in x) refl
  where
    by : (o : Option m.Variable) → variable_in x ≡ o → v.initialiser ≡ None
    by None e = let no : number + 0 ≡ number + 1 = ap (λ o. number + length (option_to_list o)) (sym e) ∙ one in absurd (omega (arith, no))
    by (Some w) e =
        let front = filter_map variable_in first in
        let there = get_between front (without_initialiser w) (declared_variables rest) in
        let list : (module_of a).variables ≡ front ++ without_initialiser w ∷ declared_variables rest = ap (λ (y : Module). y.variables) same ∙ (λ j. front ++ map without_initialiser (cons_option (e j) (filter_map variable_in rest))) in
        unset a v w (some-equal (sym (listed a number v is) ∙ ((λ j. slice_get (list j) (at j)) ∙ there)))
