use Rattle.std.proofs.Common.{◌≡◌, ◌++◌, take, map}
use Rattle.bit_stream.specs.Abbreviation.{op_of}
use Rattle.bit_stream.proofs.abbreviation.add_ops.Given as goal

abbrev pub invariant-loop-scalar : goal.invariant-loop-scalar
invariant-loop-scalar l = l.ops ≡ l.initial.ops ++ map op_of (take l.scalar-index l.scalars)
