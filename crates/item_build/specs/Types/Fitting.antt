-- For `keep_type`, `add_type` and `add_types` of `Builder`: which types an arena can take: each is within the limits,
-- and so is each that is written in it.
use Rattle.std.specs.Prelude.{◌≤◌, All, Contains, map}
use Rattle.ir_tables.specs.declared.width.TheConstants.{WIDEST}
use Rattle.type_table.specs.Limits.{IsWithinLimits}
use Rattle.type_table.specs.Shape.{shape}
use Rattle.type_table.specs.Types.{trees}
use Rattle.type_table.specs.Tree.{Tree, int, ptr, void, array, struct, named, Trees, no_trees, more_trees, Structs}
use Rattle.module_arena.specs.Lists.{Lists}

abbrev mutual
  -- an integer has 1 to 128 bits, a struct is there, and no type in it is past a limit
  pub CanBe : Structs → Tree → Type 0
  CanBe structs (int width) = (1 ≤ width) × (width ≤ WIDEST)
  CanBe structs ptr = Unit {0}
  CanBe structs void = Unit {0}
  CanBe structs (array n t) = IsWithinLimits (shape structs (array n t)) × CanBe structs t
  CanBe structs (struct packed ts) = IsWithinLimits (shape structs (struct packed ts)) × AllCanBe structs ts
  CanBe structs (named name) = IsWithinLimits (shape structs (named name)) × Contains (map (λ s. s.0) structs) name

  -- the same of several types
  pub AllCanBe : Structs → Trees → Type 0
  AllCanBe structs no_trees = Unit {0}
  AllCanBe structs (more_trees t ts) = CanBe structs t × AllCanBe structs ts

-- the types of the arena are within the limits, where these are the structs
abbrev pub AreWithin : Structs → Lists → Type 0
AreWithin structs a = All (λ t. IsWithinLimits (shape structs t)) (trees a.table)
