-- The entries of a module alone are its variables, functions and aliases.
use Rattle.std.proofs.Common.{◌≡◌, ℕ, [], ◌∷◌, ◌++◌, map}
use Rattle.std.specs.Prelude.{slice_get, Some}
use Rattle.std.specs.List.{AllByRecursion}
use Rattle.module_arena.specs.Module.{Variable, Function, Alias, Module}
use Rattle.linkage_rules.specs.Entries.{Entry, entries}
use Rattle.linkage_rules.specs.Globals.{Global, OfVariable, OfFunction, OfAlias, globals}
use Rattle.linkage_rules.proofs.Gathered.{all_mapped}
use Rattle.run_rules.proofs.OnPlaces.Parts.{all_from_places}
use Rattle.run_rules.proofs.OnPlaces.Together.{all_append}

-- the entry of a global of the first part
abbrev pub first_part : Global → Entry
first_part g = record { part = 0; global = g }

-- what holds of all that a module has holds of its entries
pub entries_all : (P : Entry → Type 0) (m : Module) → ((k : ℕ) (v : Variable) → slice_get m.variables k ≡ Some v → P (first_part (OfVariable v)))
    → ((k : ℕ) (f : Function) → slice_get m.functions k ≡ Some f → P (first_part (OfFunction f))) → ((k : ℕ) (a : Alias) → slice_get m.aliases k ≡ Some a → P (first_part (OfAlias a)))
    → AllByRecursion P (entries (m ∷ []))
entries_all P m variable function alias =
    let Q : Global → Type 0 = λ g. P (first_part g) in
    all_append P (map first_part (globals m)) []
    (all_mapped P first_part (globals m)
    (all_append Q (map OfVariable m.variables ++ map OfFunction m.functions) (map OfAlias m.aliases)
    (all_append Q (map OfVariable m.variables) (map OfFunction m.functions)
    (all_mapped Q OfVariable m.variables (all_from_places (λ v. Q (OfVariable v)) m.variables variable))
    (all_mapped Q OfFunction m.functions (all_from_places (λ f. Q (OfFunction f)) m.functions function)))
    (all_mapped Q OfAlias m.aliases (all_from_places (λ a. Q (OfAlias a)) m.aliases alias)))) tt
