use Rattle.std.proofs.Common.{◌≡◌, ◌-◌}
use Rattle.bit_stream.specs.Record.{elements}
use Rattle.bit_stream.proofs.record.add_elements.Given as goal

abbrev pub invariant-loop : goal.invariant-loop
invariant-loop l = elements l.names_block l.scalar (l.count - l.counter) l.operands.items l.cursor ≡ elements l.names_block l.scalar l.count l.initial.operands.items l.initial.cursor
