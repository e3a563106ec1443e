-- For `put_bytes` and `put_constant`: where the leaves of a constant lie, and what they are.
use Rattle.std.specs.Prelude.{ℕ, ◌+◌, Bool, List, [], ◌∷◌, ◌++◌, zip}
use Rattle.ir_eval.specs.declared.value.Scalar.TheVariants.{Int}
use Rattle.ir_memory.specs.declared.leaf.Leaf.TheVariants as leaf
use Rattle.module_arena.specs.Module.{Constant, Constants, no_constants, more_constants}
use Rattle.type_table.specs.Layout.{align, field_start, size}
use Rattle.type_table.specs.Shape.{Shapes, no_shapes, more_shapes}
use Rattle.type_table.specs.Tree.{Tree}
use Rattle.run_rules.specs.Constant.{Names, constant_value, shape_of}
use Rattle.run_rules.specs.Leaves.{slots_at}
use Rattle.run_rules.specs.Plan.{Contents}

-- bytes from that offset on, each an i8
abbrev pub bytes_at : ℕ → List ℕ → Contents
bytes_at at [] = []
bytes_at at (b ∷ bytes) = (record { offset = at; leaf = leaf.Int 8 }, Int b) ∷ bytes_at (at + 1) bytes

module _ (names : Names) where
  -- a constant of that type that begins at that offset
  abbrev pub value_at : Tree → Constant → ℕ → Contents
  value_at t c at = zip (slots_at (shape_of names t) at) (constant_value names t c)

  -- the shapes of constants, of the types that are written before them
  abbrev pub shapes_with : Constants → Shapes
  shapes_with no_constants = no_shapes
  shapes_with (more_constants t c cs) = more_shapes (shape_of names t) (shapes_with cs)

  -- the parts of a value that begins at that offset, each at its alignment or packed; those before them end after `end` bytes
  abbrev pub parts_at : Bool → ℕ → ℕ → Constants → Contents
  parts_at packed at end no_constants = []
  parts_at packed at end (more_constants t c cs) =
      value_at t c (at + field_start packed end (align (shape_of names t)))
      ++ parts_at packed at (field_start packed end (align (shape_of names t)) + size (shape_of names t)) cs
