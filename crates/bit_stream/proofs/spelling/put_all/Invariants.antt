use Rattle.std.proofs.Common.{◌≡◌, ◌++◌, take}
use Rattle.bit_stream.specs.Spelling.{all_bits}
use Rattle.bit_stream.proofs.spelling.put_all.Given as goal

abbrev pub invariant-loop-number : goal.invariant-loop-number
invariant-loop-number l = l.sink ≡ l.initial.sink ++ all_bits l.scalar (take l.number-index l.numbers)
