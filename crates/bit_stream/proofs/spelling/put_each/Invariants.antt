use Rattle.std.proofs.Common.{◌≡◌, ◌++◌, true, drop}
use Rattle.bit_stream.specs.Spelling.{each_bits, each_fit}
use Rattle.bit_stream.proofs.spelling.put_each.Given as goal

abbrev pub invariant-loop-index : goal.invariant-loop-index
invariant-loop-index l = record {
  written : l.sink ++ each_bits (drop l.index l.scalars) (drop l.index l.numbers) ≡ l.initial.sink ++ each_bits l.scalars l.numbers;
  fit : each_fit (drop l.index l.scalars) (drop l.index l.numbers) ≡ true;
}
