use Rattle.std.proofs.Common.{◌≡◌, map, take}
use Rattle.type_table.specs.Types.{trees}
use Rattle.module_arena.specs.TypeTests.{is_void}
use Rattle.bitcode_read.proofs.ahead.voids.voids_of.Given as goal

abbrev pub invariant-numbers : goal.invariant-numbers
invariant-numbers l = l.voids.items ≡ map is_void (take l.number (trees l.types))
