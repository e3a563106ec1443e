use Rattle.std.proofs.Common.{◌≡◌, None, drop}
use Rattle.bit_dump.specs.Walk.Passing.{pass_each}
use Rattle.bit_dump.proofs.walk.passing.pass_each.Given as goal

abbrev pub invariant-loop-scalar : goal.invariant-loop-scalar
invariant-loop-scalar l = pass_each l.names_block (drop l.scalar-index l.scalars) l.first l.cursor ≡ pass_each l.names_block l.scalars None l.initial.cursor
