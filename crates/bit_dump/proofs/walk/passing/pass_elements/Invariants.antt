use Rattle.std.proofs.Common.{◌≡◌, ◌-◌}
use Rattle.bit_dump.specs.Walk.Passing.{pass_elements}
use Rattle.bit_dump.proofs.walk.passing.pass_elements.Given as goal

abbrev pub invariant-loop : goal.invariant-loop
invariant-loop l = pass_elements l.names_block l.scalar (l.count - l.counter) l.first l.cursor ≡ pass_elements l.names_block l.scalar l.count l.initial.first l.initial.cursor
