use Rattle.std.proofs.Common.{◌≡◌, drop}
use Rattle.bit_stream.specs.Record.{each}
use Rattle.bit_stream.proofs.record.add_each.Given as goal

abbrev pub invariant-loop-scalar : goal.invariant-loop-scalar
invariant-loop-scalar l = each l.names_block (drop l.scalar-index l.scalars) l.operands.items l.cursor ≡ each l.names_block l.scalars l.initial.operands.items l.initial.cursor
