-- The index of an entry, among the variables, the functions and the aliases.
use Rattle.std.proofs.Common.{◌≡◌, ℕ, ◌+◌, ◌-◌, ◌<◌, false, List, [], ◌++◌, Some, length, get_or, slice_get, map, inl, inr, refl, sym, ap, ◌∙◌, arith}
use Rattle.std.specs.Option.{option_map}
use Rattle.std.specs.Prelude.{bytes_eq}
use Rattle.std.proofs.lemmas.Bool.{false_from_ne_true, cases_lt}
use Rattle.std.proofs.lemmas.List.{length-map, length-append, get_or_append_left, get_or-append_right}
use Rattle.std.proofs.lemmas.Option.{slice_get-get_or, slice_get-map}
use Rattle.std.proofs.lemmas.Slice.Eq.{bytes_eq-Decides}
use Rattle.module_arena.specs.declared.entry.GlobalId.{GlobalId}
use Rattle.module_arena.specs.declared.entry.GlobalId.TheVariants as entry
use Rattle.module_arena.specs.declared.entry.Variable as the_variable
use Rattle.module_arena.specs.declared.entry.Function as the_function
use Rattle.module_arena.specs.declared.entry.Alias as the_alias
use Rattle.module_arena.specs.Known.{AreDistinct, HasGlobal, counts}
use Rattle.module_arena.specs.Lists.{Lists, global_name, name_at}
use Rattle.module_arena.specs.View.{module_of}
use Rattle.module_arena.proofs.ModuleSet.{map_map}
use Rattle.record_table.specs.Layout.{place}
use Rattle.record_write.specs.Operands.Numbered.{indices}
use Rattle.record_write.proofs.OnOperands.Places.{place_first}

-- an element that is there has its name
present : {X : Type 0} (name : X → List ℕ) (xs : List X) (id : ℕ) → id < length xs → option_map name (slice_get xs id) ≡ Some (get_or (map name xs) id [])
present name xs id lt = sym (slice_get-map name xs id) ∙ slice_get-get_or (map name xs) id [] (omega (arith, length-map xs name))

module _ (a : Lists) where
  abbrev variables : List (List ℕ)
  variables = map (λ (v : the_variable.Variable). v.name) a.variables

  abbrev functions : List (List ℕ)
  functions = map (λ (f : the_function.Function). f.name) a.functions

  abbrev aliases : List (List ℕ)
  aliases = map (λ (x : the_alias.Alias). x.name) a.aliases

  abbrev all_names : List (List ℕ)
  all_names = (variables ++ functions) ++ aliases

  -- the index of an entry
  abbrev pub number : GlobalId → ℕ
  number (entry.Variable id) = id
  number (entry.Function id) = length a.variables + id
  number (entry.Alias id) = length a.variables + length a.functions + id

  many_variables : length variables ≡ length a.variables
  many_variables = length-map a.variables (λ (v : the_variable.Variable). v.name)

  many_functions : length functions ≡ length a.functions
  many_functions = length-map a.functions (λ (f : the_function.Function). f.name)

  many_aliases : length aliases ≡ length a.aliases
  many_aliases = length-map a.aliases (λ (x : the_alias.Alias). x.name)

  many_targets : length (variables ++ functions) ≡ length a.variables + length a.functions
  many_targets = length-append variables functions ∙ (let e = many_variables in let f = many_functions in omega (arith, e, f))

  many_names : length all_names ≡ length a.variables + length a.functions + length a.aliases
  many_names = let e = length-append (variables ++ functions) aliases in let f = many_targets in let g = many_aliases in omega (arith, e, f, g)

  -- an entry has its name, also at its index
  has_name : (g : GlobalId) → HasGlobal (counts a) g → global_name a g ≡ Some (name_at a g)
  has_name (entry.Variable id) lt = present (λ (v : the_variable.Variable). v.name) a.variables id lt
  has_name (entry.Function id) lt = present (λ (f : the_function.Function). f.name) a.functions id lt
  has_name (entry.Alias id) lt = present (λ (x : the_alias.Alias). x.name) a.aliases id lt

  number_within : (g : GlobalId) → HasGlobal (counts a) g → number g < length all_names
  number_within (entry.Variable id) lt = let e = many_names in omega (arith, e, lt)
  number_within (entry.Function id) lt = let e = many_names in omega (arith, e, lt)
  number_within (entry.Alias id) lt = let e = many_names in omega (arith, e, lt)

  at_number : (g : GlobalId) → HasGlobal (counts a) g → get_or all_names (number g) [] ≡ name_at a g
  at_number (entry.Variable id) lt =
      let e = many_variables in let f = many_targets in
      get_or_append_left (variables ++ functions) aliases [] id (omega (arith, f, lt)) ∙ get_or_append_left variables functions [] id (omega (arith, e, lt))
  at_number (entry.Function id) lt =
      let e = many_variables in let f = many_targets in
      get_or_append_left (variables ++ functions) aliases [] (length a.variables + id) (omega (arith, f, lt))
      ∙ get_or-append_right variables functions (length a.variables) (length a.variables + id) [] e (omega arith)
      ∙ ap (λ (k : ℕ). get_or functions k []) (omega arith)
  at_number (entry.Alias id) lt =
      get_or-append_right (variables ++ functions) aliases (length a.variables + length a.functions) (length a.variables + length a.functions + id) [] many_targets (omega arith)
      ∙ ap (λ (k : ℕ). get_or aliases k []) (omega arith)

  -- each index is that of an entry
  entry_of : (i : ℕ) → i < length all_names → (g : GlobalId) × HasGlobal (counts a) g × (number g ≡ i)
  entry_of i lt = elim (cases_lt i (length a.variables)) [
    | inl less ↦ (entry.Variable i, less, refl)
    | inr more ↦ elim (cases_lt i (length a.variables + length a.functions)) [
      | inl less ↦ (entry.Function (i - length a.variables), omega (arith, less, more), omega (arith, more))
      | inr beyond ↦ let e = many_names in (entry.Alias (i - (length a.variables + length a.functions)), omega (arith, e, lt, beyond), omega (arith, beyond))
    ]
  ]

  -- before the index of an entry its name does not stand
  name_before : AreDistinct a → (g : GlobalId) → HasGlobal (counts a) g → (j : ℕ) → j < number g → bytes_eq (get_or all_names j []) (name_at a g) ≡ false
  name_before distinct g there j lt =
      let within = number_within g there in
      let other = entry_of j (omega (arith, within, lt)) in
      false_from_ne_true (bytes_eq (get_or all_names j []) (name_at a g)) (λ e.
      let same : get_or all_names j [] ≡ name_at a g = (bytes_eq-Decides (get_or all_names j []) (name_at a g)).0 e in
      let named : name_at a other.0 ≡ name_at a g = sym (at_number other.0 other.1) ∙ ap (λ (k : ℕ). get_or all_names k []) other.2 ∙ same in
      let one = distinct (name_at a g) other.0 g (has_name other.0 other.1 ∙ ap Some named) (has_name g there) in
      let number_same : number other.0 ≡ number g = ap number one in
      let at = other.2 in
      omega (arith, lt, number_same, at))

  names_are : (indices a).globals ≡ all_names
  unfolding module_of
  names_are = simp map_map

  -- an entry stands at its index
  pub global_place : AreDistinct a → (g : GlobalId) → HasGlobal (counts a) g → place bytes_eq (indices a).globals (name_at a g) ≡ number g
  global_place distinct g there =
      ap (λ (l : List (List ℕ)). place bytes_eq l (name_at a g)) names_are
      ∙ place_first bytes_eq (name_at a g) [] all_names (number g) (number_within g there) ((bytes_eq-Decides (get_or all_names (number g) []) (name_at a g)).1 (at_number g there)) (name_before distinct g there)
