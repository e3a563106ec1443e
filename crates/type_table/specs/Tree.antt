-- For all calls of `TypeTable`: a type as a plain tree that keeps the names of structs, and the bodies that these names
-- stand for.
use Rattle.std.specs.Prelude.{ℕ, suc, Bool, List, [], ◌∷◌, map, bytes_eq, slice_index_or, if◌then◌else◌}

mutual
  -- LangRef, "Type System". The flag of a struct is true where it is packed
  pub data Tree : Type 0 where
    int : ℕ → Tree
    ptr : Tree
    void : Tree
    array : ℕ → Tree → Tree
    struct : Bool → Trees → Tree
    named : List ℕ → Tree

  -- types, one after another
  pub data Trees : Type 0 where
    no_trees : Trees
    more_trees : Tree → Trees → Trees

-- what a struct's name stands for: nothing that is known, or fields, packed or not
pub data TreeBody : Type 0 where
  opaque_body : TreeBody
  fields : Bool → Trees → TreeBody

-- the named structs, in order
abbrev pub Structs : Type 0
Structs = List (List ℕ × TreeBody)

-- the place of a name among the names, or how many there are
abbrev pub index_of : List (List ℕ) → List ℕ → ℕ
index_of [] name = 0
index_of (first ∷ names) name = if bytes_eq first name then 0 else suc (index_of names name)

-- what a name stands for. A name that no struct has stands for nothing that is known
abbrev pub body_of : Structs → List ℕ → TreeBody
body_of structs name = slice_index_or (map (λ s. s.1) structs) (index_of (map (λ s. s.0) structs) name) opaque_body
