-- Says how the code of `define_symbols` reads: which parts still stand while functions and aliases are defined.
use Rattle.std.specs.Prelude.{◌≡◌, ℕ, ◌<◌, ◌≤◌, Bool, true, false, List, length, map, slice_get, Option, Some}
use Rattle.linkage_rules.specs.Ids.{modules}
use Rattle.linkage_rules.specs.declared.entry.EntryId.{EntryId}
use Rattle.module_arena.specs.Lists.{Lists}
use Rattle.module_arena.specs.declared.entry.GlobalId.{GlobalId}
use Rattle.module_arena.specs.declared.entry.GlobalId.TheVariants as global
use Rattle.entry_copy.specs.Tables.{Tables}
use Rattle.module_linker.specs.Stages.Declared.{ids_of}
use Rattle.module_linker.specs.Filling.Filling.{IsFilling}
use Rattle.module_linker.specs.Filling.Origins.{IsOrigin}
use Rattle.module_linker.specs.declared.filling.origins.SymbolOrigin.{SymbolOrigin}
use Rattle.module_linker.specs.declared.filling.standing.StandingParts.{StandingParts}

-- the symbol with that number has that origin
abbrev pub HasOrigin : List SymbolOrigin → ℕ → SymbolOrigin → Type 0
HasOrigin origins number x = slice_get origins number ≡ Some x

-- a symbol of that origin is defined there
abbrev pub IsDefinedAt : SymbolOrigin → EntryId → Type 0
IsDefinedAt x home = x.home ≡ Some home

-- that number is told of the part
abbrev pub IsToldOf : List ℕ → ℕ → ℕ → Type 0
IsToldOf last part number = slice_get last part ≡ Some number

-- the part stands as it was given
abbrev pub StandsAs : List Lists → List (Option Lists) → ℕ → Type 0
StandsAs parts standing part = slice_get standing part ≡ slice_get (map Some parts) part

-- Of the first so many symbols none is defined in a part behind the number that is told of it.
abbrev pub AreLast : ℕ → List SymbolOrigin → List ℕ → Type 0
AreLast count origins last =
    (m : ℕ) (x : SymbolOrigin) (home : EntryId) (l : ℕ)
    → m < count → HasOrigin origins m x → IsDefinedAt x home → IsToldOf last home.part l → m ≤ l

-- Each part stands in which the symbol with that number or a later one is defined.
abbrev pub StandFrom : ℕ → List Lists → List SymbolOrigin → List (Option Lists) → Type 0
StandFrom number parts origins standing =
    (m : ℕ) (x : SymbolOrigin) (home : EntryId)
    → number ≤ m → HasOrigin origins m x → IsDefinedAt x home → StandsAs parts standing home.part

-- These stand of the parts, and it is known how long each is needed.
pub record AreStanding (number : ℕ) (parts : List Lists) (origins : List SymbolOrigin) (s : StandingParts) : Type 0 where
  pub parts_there : StandFrom number parts origins s.parts.items
  pub last : AreLast (length origins) origins s.last.items

-- whether an id is that of a variable
abbrev pub is_variable : GlobalId → Bool
is_variable (global.Variable n) = true
is_variable (global.Function n) = false
is_variable (global.Alias n) = false

-- an id that is not
abbrev pub IsPlainId : GlobalId → Type 0
IsPlainId id = is_variable id ≡ false

-- from that number on no id is that of a variable
abbrev pub ArePlainFrom : ℕ → List GlobalId → Type 0
ArePlainFrom first ids = (k : ℕ) (id : GlobalId) → first ≤ k → slice_get ids k ≡ Some id → IsPlainId id

-- The symbol with that number is the next that is defined in b, under that id, and defined in that home: a is the part of the home, which
-- t copied to b.
pub record IsNext (parts : List Lists) (tables : List Tables) (number : ℕ) (home : EntryId) (id : GlobalId) (a b : Lists) (t : Tables) : Type 0 where
  pub origin : SymbolOrigin
  pub kept : IsOrigin parts number origin
  pub at_home : IsDefinedAt origin home
  pub is : slice_get (ids_of (modules parts)) number ≡ Some id
  pub filling : IsFilling parts number b tables
  pub there : slice_get parts home.part ≡ Some a
  pub copied_by : slice_get tables home.part ≡ Some t
