-- For `types_are_read_back`: the law of the block of types.
use Rattle.std.specs.Prelude.{ℕ}
use Rattle.module_arena.specs.Module.{Module}
use Rattle.module_arena.specs.WellFormed.{IsWellFormed}
use Rattle.record_law.specs.Types.ReadTypes.{TypesAreRead}

-- the types and structs of a well-formed module are read of the block that lists them, wherever it stands
abbrev pub TypesAreReadBack : Type 0
TypesAreReadBack = (m : Module) → IsWellFormed m → (at : ℕ) → TypesAreRead m at
