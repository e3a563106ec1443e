-- For `keep` and `count` of `ShapeSet`: shapes under numbers, each with earlier ones as its parts.
use Rattle.std.specs.Prelude.{◌≡◌, ℕ, ◌+◌, ◌<◌, List, [], ◌∷◌, ◌++◌, All, Some, None, slice_get, slice_index_or, ⊤}
use Rattle.std.specs.List.{fold}
use Rattle.type_table.specs.Shape.{Label, Shape, int_leaf, ptr_leaf, void_leaf, opaque_leaf, array_of, struct_of, Shapes, no_shapes, more_shapes}
use Rattle.type_table.specs.declared.ir_type.IrType.{IrType}
use Rattle.type_table.specs.declared.ir_type.IrType.TheVariants.{Int, Ptr, Void, Array, Struct, Named}
use Rattle.link_names.specs.declared.shapes.labelled.Labelled.{Labelled}

-- the shapes of these numbers, one behind the other
abbrev pub shapes_at : List Shape → List ℕ → Shapes
shapes_at done [] = no_shapes
shapes_at done (number ∷ numbers) = more_shapes (slice_index_or done number void_leaf) (shapes_at done numbers)

-- a `void` without a label, and an opaque struct with one
abbrev pub leaf_of : Label → Shape
leaf_of None = void_leaf
leaf_of (Some name) = opaque_leaf (Some name)

-- A shape by the numbers of its parts. No shape has the id of a struct in it, so the last line is never used
abbrev pub labelled : List Shape → Label → IrType → Shape
labelled done label (Int width) = int_leaf width
labelled done label Ptr = ptr_leaf
labelled done label Void = leaf_of label
labelled done label (Array n element) = array_of n (slice_index_or done element void_leaf)
labelled done label (Struct packed fields) = struct_of label packed (shapes_at done fields)
labelled done label (Named id) = void_leaf

-- the same of both together
abbrev pub shape_in : List Shape → Labelled → Shape
shape_in done s = labelled done s.label s.head

-- one shape more
abbrev pub grow : List Shape → Labelled → List Shape
grow done key = done ++ shape_in done key ∷ []

-- the shapes of a list in which each has earlier ones as its parts
abbrev pub shapes_of : List Labelled → List Shape
shapes_of keys = fold grow [] keys

-- the parts are shapes below `count`, and a label stands at a struct or at an opaque one
abbrev pub IsKnownHead : ℕ → Label → IrType → Type 0
IsKnownHead count label (Int width) = label ≡ None
IsKnownHead count label Ptr = label ≡ None
IsKnownHead count label Void = ⊤
IsKnownHead count label (Array n element) = (label ≡ None) × (element < count)
IsKnownHead count label (Struct packed fields) = All (λ field. field < count) fields
IsKnownHead count label (Named id) = ⊥

-- the parts of a shape are among the first so many
abbrev pub IsKnownShape : ℕ → Labelled → Type 0
IsKnownShape count s = IsKnownHead count s.label s.head

-- each shape has earlier ones as its parts
abbrev pub AreKnownShapes : ℕ → List Labelled → Type 0
AreKnownShapes count [] = ⊤
AreKnownShapes count (key ∷ keys) = IsKnownShape count key × AreKnownShapes (count + 1) keys

-- no shape has two numbers
abbrev pub AreApart : List Shape → Type 0
AreApart all = (one other : ℕ) (s : Shape) → slice_get all one ≡ Some s → slice_get all other ≡ Some s → one ≡ other
