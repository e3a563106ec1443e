use Rattle.std.proofs.Common.{◌≡◌, ◌++◌, take, string_bytes}
use Rattle.std.specs.List.{flat_map}
use Rattle.bit_dump.specs.Text.{later_op}
use Rattle.bit_dump.proofs.text.put_later_ops.Given as goal

abbrev pub invariant-loop-op : goal.invariant-loop-op
invariant-loop-op l = string_bytes l.out ≡ string_bytes l.initial.out ++ flat_map later_op (take l.op-index l.ops)
