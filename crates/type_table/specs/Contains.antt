-- For `define_struct`: which structs a type holds by value.
use Rattle.std.specs.Prelude.{◌≡◌, ℕ, Bool, List}
use Rattle.type_table.specs.Tree.{Tree, array, struct, named, Trees, more_trees, TreeBody, opaque_body, fields, Structs, body_of}

module _ (bodies : List ℕ → TreeBody) (name : List ℕ) where
  mutual
    -- the struct of that name is the type or a part of it, at any depth and through the bodies of structs
    pub data Holds : Tree → Type 0 where
      holds_as_itself : Holds (named name)
      holds_in_array : {n : ℕ} {t : Tree} → Holds t → Holds (array n t)
      holds_in_struct : {packed : Bool} {ts : Trees} → SomeHolds ts → Holds (struct packed ts)
      holds_in_body : {outer : List ℕ} {packed : Bool} {ts : Trees} → bodies outer ≡ fields packed ts → SomeHolds ts → Holds (named outer)

    -- one of several types holds it
    pub data SomeHolds : Trees → Type 0 where
      first_holds : {t : Tree} {ts : Trees} → Holds t → SomeHolds (more_trees t ts)
      later_holds : {t : Tree} {ts : Trees} → SomeHolds ts → SomeHolds (more_trees t ts)

  -- a field of a body holds it
  abbrev pub BodyHolds : TreeBody → Type 0
  BodyHolds opaque_body = ⊥
  BodyHolds (fields packed ts) = SomeHolds ts

-- a field of the struct holds it
abbrev pub ContainsItself : Structs → List ℕ → Type 0
ContainsItself structs name = BodyHolds (body_of structs) name (body_of structs name)
