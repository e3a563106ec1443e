-- What holds of a module's block that was read so far.
use Rattle.std.proofs.Common.{◌≡◌, ◌<◌, ◌≤◌, ◌+◌, ℕ, suc, max, true, List, [], ◌++◌, length, map, Option, None, nat_le, bytes_eq, ◌⊎◌}
use Rattle.std.specs.Prelude.{Ok}
use Rattle.std.specs.List.{list_all, AllByRecursion}
use Rattle.ir_tables.specs.Table.{is_distinct}
use Rattle.module_arena.specs.Module.{Bytes, Module}
use Rattle.module_arena.specs.Names.{are_bytes}
use Rattle.module_arena.specs.WellFormed.{are_good_names, are_good_structs, is_good_type}
use Rattle.record_table.specs.Fields.{Numbering, Texts}
use Rattle.record_table.specs.Faults.{Records, also}
use Rattle.record_table.specs.Records.{Sofar, may_follow, names_of, record_at_place}
use Rattle.record_law.proofs.OnLabels.Kept.{unless_ok, also_held}
use Rattle.record_law.proofs.OnFormed.Unbroken.{OfSome}
use Rattle.record_law.proofs.OnFormed.Good.{IsOf}
use Rattle.record_law.proofs.OnFormed.Entries.{IsAlias, IsFunction, IsVariable}

-- the names of the variables, of the functions and of the aliases that were read
abbrev pub variables_named : Sofar → List Bytes
variables_named s = map (λ v. v.name) s.variables

abbrev pub functions_named : Sofar → List Bytes
functions_named s = map (λ f. f.1.name) s.functions

abbrev pub aliases_named : Sofar → List Bytes
aliases_named s = map (λ a. a.name) s.aliases

-- what was read is good in a module of which indices say what they stand for
pub record AreGood (m : Module) (s : Sofar) : Type 0 where
  pub variables : AllByRecursion (IsVariable m) s.variables
  pub functions : AllByRecursion (IsFunction m) s.functions
  pub aliases : AllByRecursion (IsAlias m) s.aliases

-- nothing of that was read
pub record IsEmpty (s : Sofar) : Type 0 where
  pub variables : s.variables ≡ []
  pub functions : s.functions ≡ []
  pub aliases : s.aliases ≡ []

-- types and structs were read
pub record IsTyped (k : Numbering) : Type 0 where
  pub types_good : list_all (is_good_type k.structs) k.types ≡ true
  pub structs_good : are_good_structs k.structs ≡ true
  pub names_good : are_good_names (map (λ s. s.0) k.structs) ≡ true
  pub few : nat_le (length k.structs) 262144 ≡ true

-- how many there are
pub record AreFew (s : Sofar) : Type 0 where
  pub variables : length s.variables ≤ 262144
  pub functions : length s.functions ≤ 262144
  pub aliases : (s.aliases ≡ []) ⊎ (length s.aliases + max (length s.variables) (length s.functions) ≤ 262144)

-- the texts of the module are bytes
pub record HasTexts (s : Sofar) : Type 0 where
  pub source : OfSome (λ b. are_bytes b ≡ true) s.source
  pub layout : OfSome (λ b. are_bytes b ≡ true) s.layout
  pub triple : OfSome (λ b. are_bytes b ≡ true) s.triple

-- the names in the records are those of what was read, and of what is to come
pub record IsNamed (t : Texts) (all rest : Records) (s : Sofar) : Type 0 where
  pub variables : names_of t 5 all ≡ variables_named s ++ names_of t 5 rest
  pub functions : names_of t 6 all ≡ functions_named s ++ names_of t 6 rest
  pub aliases : names_of t 7 all ≡ aliases_named s ++ names_of t 7 rest

-- in front of these records
pub record IsSoFar (t : Texts) (all rest : Records) (s : Sofar) : Type 0 where
  pub texts_are : s.texts ≡ t
  pub targets_are : s.k.targets ≡ names_of t 5 all ++ names_of t 6 all
  pub globals_are : s.k.globals ≡ s.k.targets ++ names_of t 7 all
  pub named : IsNamed t all rest s
  pub distinct : is_distinct bytes_eq (variables_named s ++ (aliases_named s ++ functions_named s)) ≡ true
  pub texts_good : HasTexts s
  pub few : AreFew s
  pub good : (m : Module) → IsOf m s.k → AreGood m s
  pub early : s.last < 5 → IsEmpty s
  pub alone : s.last < 8 → s.aliases ≡ []
  pub late : 5 ≤ s.last → IsTyped s.k

-- a record that is placed breaks no rule, and may stand there
pub record IsPlaced (s : Sofar) (place : ℕ) (broken : Option ℕ) (after u : Sofar) : Type 0 where
  pub unbroken : broken ≡ None
  pub may : may_follow s.last place ≡ true
  pub same : (record after { at = suc s.at; last = place }) ≡ u

pub is_placed : (s : Sofar) (place : ℕ) (broken : Option ℕ) (after u : Sofar) → record_at_place s place broken after ≡ Ok u → IsPlaced s place broken after u
is_placed s place broken after u e =
    let one = unless_ok 8 s.at (also 5 (may_follow s.last place) broken) (record after { at = suc s.at; last = place }) u e in
    let five = also_held 5 (may_follow s.last place) broken one.0 in
    record { unbroken = five.1; may = five.0; same = one.1 }
