use Rattle.record_write.proofs.OnOrder.Going.{goes_none, goes_more, goes_all}
use Rattle.record_write.specs.Order.Written.{in_block}
use Rattle.record_write.specs.Order.Known.{KnowsBlock}
use Rattle.record_write.proofs.OnOrder.KnownParts.{item_known}
use Rattle.record_write.proofs.order.entries.note_blocks.Goals as goal

pub loop-block-init : goal.loop-block-init
loop-block-init c = goes_none c.requires.ready

pub note_block-requires : goal.note_block-requires
note_block-requires c = record { ready = c.loop-block.invariant.ready; block = item_known (KnowsBlock c.args.arena.now) c.args.blocks.now c.loop-block.block-index c.block-item.result c.loop-block-test.true c.block-item.is c.requires.blocks }

pub loop-block-preserved : goal.loop-block-preserved
loop-block-preserved c = goes_more (in_block c.args.arena.now) c.args.blocks.now c.loop-block.block-index c.block-item.result c.loop-block-test.true c.block-item.is c.loop-block.invariant c.in_ok-note_block.ensures

pub returns : goal.returns
returns c = goes_all (in_block c.args.arena.now) c.args.blocks.now c.loop-block.block-index c.loop-block-test.false c.loop-block.invariant
