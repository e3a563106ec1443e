-- For `dependency_order`: structs in an order in which each stands behind those that its fields name.
use Rattle.std.specs.Prelude.{◌≡◌, ◌⊎◌, ℕ, ◌<◌, true, List, [], ◌∷◌, map, length, slice_index_or, nat_eq}
use Rattle.std.specs.List.{IsDistinct}
use Rattle.type_table.specs.Tree.{Structs, index_of, body_of}
use Rattle.module_arena.specs.Module.{Bytes}
use Rattle.name_rules.specs.Measured.{names_of, body_names}
use Rattle.type_judge.specs.Order.Order.{stands_in}

-- the name is one of these
abbrev pub HasName : Bytes → List Bytes → Type 0
HasName name [] = ⊥
HasName name (first ∷ more) = (name ≡ first) ⊎ HasName name more

-- a field of the first struct names the second
abbrev pub NamesOther : Structs → Bytes → Bytes → Type 0
NamesOther structs name other = HasName other (body_names (body_of structs name))

-- the name of the struct with that number, counted from 0 in the order of the text
abbrev pub name_at : Structs → ℕ → Bytes
name_at structs number = slice_index_or (names_of structs) number []

-- the names of these structs
abbrev pub names_at : Structs → List ℕ → List Bytes
names_at structs numbers = map (name_at structs) numbers

-- each of these names only structs that stand before it, and names of no struct
abbrev pub Follow : Structs → List Bytes → List Bytes → Type 0
Follow structs before [] = Unit {0}
Follow structs before (name ∷ more) =
    ((other : Bytes) → NamesOther structs name other → HasName other before ⊎ (HasName other (names_of structs) → ⊥))
    × Follow structs (name ∷ before) more

-- the numbers of distinct structs, each behind those that its fields name, the first body of a name being the one that
-- counts; a struct that is left out names one that is left out, so that there is no such order with it
pub record IsDependencyOrder (structs : Structs) (order : List ℕ) : Type 0 where
  pub within : (number : ℕ) → stands_in order number ≡ true → number < length structs
  pub first : (number : ℕ) → stands_in order number ≡ true → index_of (names_of structs) (name_at structs number) ≡ number
  pub distinct : IsDistinct nat_eq order
  pub follow : Follow structs [] (names_at structs order)
  pub left : (name : Bytes) → HasName name (names_of structs) → (HasName name (names_at structs order) → ⊥)
      → (other : Bytes) × NamesOther structs name other × HasName other (names_of structs) × (HasName other (names_at structs order) → ⊥)
