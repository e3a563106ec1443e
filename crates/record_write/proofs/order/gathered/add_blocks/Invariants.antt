use Rattle.std.proofs.Common.{flat_map, take}
use Rattle.module_arena.specs.Lists.{value_names}
use Rattle.record_write.specs.Order.Bodies.{block_texts}
use Rattle.record_write.specs.Order.Table.{Gains}
use Rattle.record_write.proofs.order.gathered.add_blocks.Given as goal

abbrev pub invariant-loop-block : goal.invariant-loop-block
invariant-loop-block l = Gains l.fn.table l.table (flat_map (block_texts (value_names l.function)) (take l.block-index l.blocks))
