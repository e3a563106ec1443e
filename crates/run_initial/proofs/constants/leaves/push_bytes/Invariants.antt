use Rattle.std.proofs.Common.{◌≡◌, ◌++◌, drop, map}
use Rattle.ir_eval.specs.declared.value.Scalar.TheVariants as scalar
use Rattle.run_initial.proofs.constants.leaves.push_bytes.Given as goal

-- the other bytes complete the leaves
abbrev pub invariant-bytes : goal.invariant-bytes
invariant-bytes l = l.into.items ++ map scalar.Int (drop l.byte-index l.bytes) ≡ l.initial.into.items ++ map scalar.Int l.bytes
