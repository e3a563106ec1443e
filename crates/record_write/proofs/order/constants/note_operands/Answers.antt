use Rattle.record_write.proofs.OnOrder.Going.{goes_none, goes_more, goes_all}
use Rattle.record_write.specs.Order.Written.{in_operand, KnowsOperand}
use Rattle.record_write.proofs.OnOrder.KnownParts.{item_known}
use Rattle.record_write.proofs.order.constants.note_operands.Goals as goal

pub loop-operand-init : goal.loop-operand-init
loop-operand-init c = goes_none c.requires.ready

pub note_operand-requires : goal.note_operand-requires
note_operand-requires c = record { ready = c.loop-operand.invariant.ready; operand = item_known (KnowsOperand c.args.arena.now) c.args.operands.now c.loop-operand.operand-index c.operand-item.result c.loop-operand-test.true c.operand-item.is c.requires.operands }

pub loop-operand-preserved : goal.loop-operand-preserved
loop-operand-preserved c = goes_more (in_operand c.args.arena.now) c.args.operands.now c.loop-operand.operand-index c.operand-item.result c.loop-operand-test.true c.operand-item.is c.loop-operand.invariant c.in_ok-note_operand.ensures

pub returns : goal.returns
returns c = goes_all (in_operand c.args.arena.now) c.args.operands.now c.loop-operand.operand-index c.loop-operand-test.false c.loop-operand.invariant
