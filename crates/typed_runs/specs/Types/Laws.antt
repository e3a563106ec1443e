-- For `good_types_are_sound`: what the shape of a type gives a run.
use Rattle.std.specs.Prelude.{◌≡◌, true, Some}
use Rattle.std.specs.List.{All}
use Rattle.ir_memory.specs.Given.{IsLeaf, IsAlignment}
use Rattle.type_table.specs.Layout.{align}
use Rattle.type_table.specs.Shape.{Shape, shape}
use Rattle.type_table.specs.Tree.{Tree, Structs}
use Rattle.module_arena.specs.WellFormed.{is_good_type, are_good_structs}
use Rattle.run_rules.specs.Leaves.{slots}

-- leaves that memory takes, and an alignment
pub record IsSoundShape (s : Shape) : Type 0 where
  pub leaves : All (λ x. IsLeaf x.leaf) (slots s)
  pub alignment : IsAlignment (align s)

-- a good type has such a shape
abbrev pub GoodTypesAreSound : Type 0
GoodTypesAreSound =
    (structs : Structs) → are_good_structs structs ≡ true → (t : Tree) → is_good_type structs t ≡ true → (s : Shape) × (shape structs t ≡ Some s) × IsSoundShape s
