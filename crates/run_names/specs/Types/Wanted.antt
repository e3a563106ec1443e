-- For `fits_row` and `only_leaf`: the types that the host asks for, as shapes.
use Rattle.std.specs.Prelude.{ℕ, Bool, true, false, ◌&&◌, ◌||◌, ◌==◌, List, [], ◌∷◌, map, Option, Some, None}
use Rattle.ir_memory.specs.declared.leaf.Leaf.{Leaf}
use Rattle.ir_memory.specs.declared.leaf.Leaf.TheVariants as leaf
use Rattle.module_arena.specs.declared.host.HostRow.{HostRow}
use Rattle.module_arena.specs.HostRows.{fixed_types}
use Rattle.module_arena.specs.HostTypes.{has_short_form}
use Rattle.type_table.specs.Shape.{Shape, int_leaf, ptr_leaf, void_leaf, opaque_leaf, array_of, struct_of, no_shapes, more_shapes}
use Rattle.type_table.specs.Types.{Types}
use Rattle.run_rules.specs.Action.{Signature}
use Rattle.run_rules.specs.Calls.{same_signature}
use Rattle.run_rules.specs.Look.{no_names}
use Rattle.run_rules.specs.Resolve.{signature_in}
use Rattle.run_names.specs.Shapes.Shapes.{shape_in}
use Rattle.run_names.specs.declared.shapes.form.TypeForm.{TypeForm}
use Rattle.run_names.specs.declared.shapes.form.TypeForm.TheVariants as form
use Rattle.run_names.specs.declared.types.wanted.Wanted.{Wanted}
use Rattle.run_names.specs.declared.types.wanted.Wanted.TheVariants as wanted

-- a struct of an integer and an i1
abbrev pub pair_shape : ℕ → Shape
pair_shape width = struct_of None false (more_shapes (int_leaf width) (more_shapes (int_leaf 1) no_shapes))

-- what a type that is asked for is
abbrev pub shape_wanted : Wanted → Shape
shape_wanted (wanted.Int width) = int_leaf width
shape_wanted wanted.Ptr = ptr_leaf
shape_wanted wanted.Void = void_leaf
shape_wanted (wanted.Pair width) = pair_shape width

-- a form is that of a type without parts that is asked for
abbrev pub is_plain : TypeForm → Wanted → Bool
is_plain (form.Int width) (wanted.Int other) = width == other
is_plain form.Pointer wanted.Ptr = true
is_plain form.Nothing wanted.Void = true
is_plain _ _ = false

-- a function type with these ids
abbrev pub written_as : Types → ℕ → List ℕ → Bool → Signature
written_as types returns parameters variadic = record { returns = shape_in types returns; parameters = map (shape_in types) parameters; variadic = variadic }

-- a function type is that of these shapes
abbrev pub is_typed : Signature → Shape → List Shape → Bool → Bool
is_typed used returns parameters variadic = same_signature used (record { returns = returns; parameters = parameters; variadic = variadic })

-- the first of these, or one of no types
abbrev pub first_of : List Signature → Signature
first_of [] = record { returns = void_leaf; parameters = []; variadic = false }
first_of (s ∷ ss) = s

-- the first function type of a row with a name of its own
abbrev pub first_type : HostRow → Signature
first_type row = first_of (map (signature_in no_names) (fixed_types row))

-- a function type is the first of the row, or the short one
abbrev pub fits_forms : HostRow → Signature → Bool
fits_forms row used =
    is_typed used (first_type row).returns (first_type row).parameters (first_type row).variadic || (has_short_form row && is_typed used void_leaf (ptr_leaf ∷ []) false)

-- the leaf of an integer or a pointer
abbrev pub leaf_of : Shape → Option Leaf
leaf_of (int_leaf width) = Some (leaf.Int width)
leaf_of ptr_leaf = Some leaf.Ptr
leaf_of void_leaf = None
leaf_of (opaque_leaf label) = None
leaf_of (array_of n s) = None
leaf_of (struct_of label packed ss) = None
