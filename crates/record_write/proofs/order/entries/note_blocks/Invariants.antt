use Rattle.std.proofs.Common.{flat_map, take}
use Rattle.record_write.specs.Order.Written.{in_block, Goes}
use Rattle.record_write.proofs.order.entries.note_blocks.Given as goal

abbrev pub invariant-loop-block : goal.invariant-loop-block
invariant-loop-block l = Goes l.arena l.fn.order l.order (flat_map (in_block l.arena) (take l.block-index l.blocks))
