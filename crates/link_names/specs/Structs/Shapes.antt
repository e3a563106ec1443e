-- For `struct_number` of `ShapeWalk`: the shapes of a table's types and structs, and numbers of shapes.
use Rattle.std.specs.Prelude.{◌≡◌, ℕ, Bool, List, [], ◌∷◌, Option, Some, None, slice_get, slice_index_or}
use Rattle.std.specs.Option.{option_map}
use Rattle.type_table.specs.declared.measure.TheConstants.{NESTING_LIMIT}
use Rattle.type_table.specs.Shape.{Label, Shape, all_expanded, name_shape, named_shape, struct_of}
use Rattle.type_table.specs.Tree.{TreeBody, body_of, named}
use Rattle.type_table.specs.Types.{Types, bodies, names, structs, tree, tree_body, trees, trees_at}

-- what has a number has it still
abbrev pub AreKept : List Shape → List Shape → Type 0
AreKept before now = (number : ℕ) (s : Shape) → slice_get before number ≡ Some s → slice_get now number ≡ Some s

-- there is a shape, and that is its number
abbrev pub IsNumber : List Shape → ℕ → Option Shape → Type 0
IsNumber all number shape = (s : Shape) × (slice_get all number ≡ Some s) × (shape ≡ Some s)

-- there are shapes, and those are their numbers, in order
abbrev pub AreNumbers : List Shape → List ℕ → List (Option Shape) → Type 0
AreNumbers all [] [] = Unit {0}
AreNumbers all [] (s ∷ shapes) = ⊥
AreNumbers all (number ∷ numbers) [] = ⊥
AreNumbers all (number ∷ numbers) (s ∷ shapes) = IsNumber all number s × AreNumbers all numbers shapes

-- the shape of a type of a table, with the names of structs
abbrev pub type_shape : Types → ℕ → Option Shape
type_shape t ty = named_shape (structs t) (tree t ty)

-- the shape of a struct, with its name and those of the structs in it
abbrev pub struct_shape : Types → ℕ → Option Shape
struct_shape t id = named_shape (structs t) (named (slice_index_or (names t) id []))

-- what a struct holds
abbrev pub struct_tree : Types → ℕ → TreeBody
struct_tree t id = tree_body (trees t) (slice_index_or (bodies t) id None)

-- the shape of a struct with these fields, with a name or none, and with the names of the structs in it
abbrev pub fields_shape : Types → Label → Bool → List ℕ → Option Shape
fields_shape t l packed fields = option_map (struct_of l packed) (all_expanded (name_shape (λ m. Some m) (body_of (structs t)) NESTING_LIMIT) (trees_at (trees t) fields))
