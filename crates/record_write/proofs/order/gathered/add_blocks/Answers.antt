use Rattle.std.proofs.Common.{arith}
use Rattle.module_arena.specs.Lists.{value_names}
use Rattle.record_write.specs.Order.Bodies.{block_texts}
use Rattle.record_write.proofs.OnOrder.Gaining.{gains_none, gains_more, gains_all}
use Rattle.record_write.proofs.order.gathered.add_blocks.Goals as goal

pub loop-block-init : goal.loop-block-init
loop-block-init c = gains_none c.args.table.now

pub loop-block-preserved : goal.loop-block-preserved
loop-block-preserved c = gains_more (block_texts (value_names c.args.function.now)) c.args.blocks.now c.loop-block.block-index c.block-item.result (omega arith) c.block-item.is c.loop-block.invariant c.in_ok-add_block.ensures

pub returns : goal.returns
returns c = gains_all (block_texts (value_names c.args.function.now)) c.args.blocks.now c.loop-block.block-index (omega arith) c.loop-block.invariant
