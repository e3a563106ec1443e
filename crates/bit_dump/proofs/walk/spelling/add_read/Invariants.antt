use Rattle.std.proofs.Common.{◌≡◌, ◌++◌, drop}
use Rattle.std.specs.Prelude.{filter}
use Rattle.bit_dump.specs.Walk.Spelling.{has_bits}
use Rattle.bit_dump.proofs.walk.spelling.add_read.Given as goal

abbrev pub invariant-loop-scalar : goal.invariant-loop-scalar
invariant-loop-scalar l = l.read.items ++ filter has_bits (drop l.scalar-index l.scalars) ≡ l.initial.read.items ++ filter has_bits l.scalars
