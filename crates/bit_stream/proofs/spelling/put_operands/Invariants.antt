use Rattle.std.proofs.Common.{◌≡◌, ◌++◌, take}
use Rattle.std.specs.List.{flat_map}
use Rattle.bit_stream.specs.Spelling.{operand_bits}
use Rattle.bit_stream.proofs.spelling.put_operands.Given as goal

abbrev pub invariant-loop-operand : goal.invariant-loop-operand
invariant-loop-operand l = l.sink ≡ l.initial.sink ++ flat_map operand_bits (take l.operand-index l.operands)
