-- What valid parts are asked for: local entries are definitions, and appended symbols are of lists.
use Rattle.std.proofs.Common.{◌≡◌, ℕ, Bool, true, false, not, ◌&&◌, List, [], ◌∷◌, ◌++◌, refl, flat_map}
use Rattle.std.specs.Prelude.{is_some}
use Rattle.std.specs.List.{AllByRecursion}
use Rattle.ir_tables.specs.declared.linkage.Linkage.{Linkage}
use Rattle.ir_tables.specs.declared.linkage.Linkage.TheVariants.{Private, Internal}
use Rattle.module_arena.specs.EntryRules.{linkage_suits, alias_suits}
use Rattle.module_arena.specs.Module.{Module}
use Rattle.module_arena.specs.Valid.{Demand, AllHold, module_demands, variable_demands, alias_demands, function_demands, IsValid}
use Rattle.linkage_rules.specs.Globals.{linkage_of, globals}
use Rattle.linkage_rules.specs.Linkages.{is_local, is_available_externally}
use Rattle.linkage_rules.specs.Winner.{is_definition}
use Rattle.linkage_rules.proofs.Entries.{all_follow}
use Rattle.link_rules.proofs.Parts.{globals_all}

hold_halves : (ds es : List Demand) → AllHold (ds ++ es) → AllHold ds × AllHold es
hold_halves [] es h = (tt, h)
hold_halves (d ∷ ds) es h = let rest = hold_halves ds es h.1 in ((h.0, rest.0), rest.1)

hold_each : {A : Type 0} (f : A → List Demand) (xs : List A) → AllHold (flat_map f xs) → AllByRecursion (λ x. AllHold (f x)) xs
hold_each f [] h = tt
hold_each f (x ∷ xs) h = let halves = hold_halves (f x) (flat_map f xs) h in (halves.0, hold_each f xs halves.1)

module _ (m : Module) (valid : IsValid m) where
  abbrev front : List Demand
  front = module_demands m

  behind_front : AllHold (flat_map (variable_demands m) m.variables ++ (flat_map (alias_demands m) m.aliases ++ flat_map (function_demands m) m.functions))
  behind_front = (hold_halves front (flat_map (variable_demands m) m.variables ++ (flat_map (alias_demands m) m.aliases ++ flat_map (function_demands m) m.functions)) valid).1

  behind_variables : AllHold (flat_map (alias_demands m) m.aliases ++ flat_map (function_demands m) m.functions)
  behind_variables = (hold_halves (flat_map (variable_demands m) m.variables) (flat_map (alias_demands m) m.aliases ++ flat_map (function_demands m) m.functions) behind_front).1

  pub of_variables : AllByRecursion (λ v. AllHold (variable_demands m v)) m.variables
  of_variables = hold_each (variable_demands m) m.variables (hold_halves (flat_map (variable_demands m) m.variables) (flat_map (alias_demands m) m.aliases ++ flat_map (function_demands m) m.functions) behind_front).0

  pub of_aliases : AllByRecursion (λ a. AllHold (alias_demands m a)) m.aliases
  of_aliases = hold_each (alias_demands m) m.aliases (hold_halves (flat_map (alias_demands m) m.aliases) (flat_map (function_demands m) m.functions) behind_variables).0

  pub of_functions : AllByRecursion (λ f. AllHold (function_demands m f)) m.functions
  of_functions = hold_each (function_demands m) m.functions (hold_halves (flat_map (alias_demands m) m.aliases) (flat_map (function_demands m) m.functions) behind_variables).1

-- LOCAL ENTRIES

local_defined : (b : Bool) (l : Linkage) → linkage_suits b l ≡ true → is_local l ≡ true → (b && not (is_available_externally l)) ≡ true
local_defined true Private h k = refl
local_defined true Internal h k = refl
local_defined false Private h k = cc
local_defined false Internal h k = cc
local_defined b l h k = cc

pub locals_define : (m : Module) → IsValid m → (i : ℕ) → AllByRecursion (λ g. is_local (linkage_of g) ≡ true → is_definition (record { part = i; global = g }) ≡ true) (globals m)
locals_define m valid i =
    globals_all (λ g. is_local (linkage_of g) ≡ true → is_definition (record { part = i; global = g }) ≡ true) m
    (all_follow _ _ m.variables (λ v h k. local_defined (is_some v.initialiser) v.linkage h.0 k) (of_variables m valid))
    (all_follow _ _ m.functions (λ f h k. local_defined (is_some f.body) f.linkage h.0 k) (of_functions m valid))
    (all_follow _ _ m.aliases (λ a h k. local_defined true a.linkage h.0 k) (of_aliases m valid))

pub aliases_suit : (m : Module) → IsValid m → AllByRecursion (λ a. alias_suits m a ≡ true) m.aliases
aliases_suit m valid = all_follow _ _ m.aliases (λ a h. h.1.1.1.1.1.0) (of_aliases m valid)
