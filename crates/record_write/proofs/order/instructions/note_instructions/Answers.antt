use Rattle.record_write.proofs.OnOrder.Going.{goes_none, goes_more, goes_all}
use Rattle.record_write.specs.Order.Written.{in_inst}
use Rattle.record_write.specs.Order.Known.{KnowsInst}
use Rattle.record_write.proofs.OnOrder.KnownParts.{item_known}
use Rattle.record_write.proofs.order.instructions.note_instructions.Goals as goal

pub loop-instruction-init : goal.loop-instruction-init
loop-instruction-init c = goes_none c.requires.ready

pub note_instruction-requires : goal.note_instruction-requires
note_instruction-requires c = record { ready = c.loop-instruction.invariant.ready; instruction = item_known (KnowsInst c.args.arena.now) c.args.instructions.now c.loop-instruction.instruction-index c.instruction-item.result c.loop-instruction-test.true c.instruction-item.is c.requires.instructions }

pub loop-instruction-preserved : goal.loop-instruction-preserved
loop-instruction-preserved c = goes_more (in_inst c.args.arena.now) c.args.instructions.now c.loop-instruction.instruction-index c.instruction-item.result c.loop-instruction-test.true c.instruction-item.is c.loop-instruction.invariant c.in_ok-note_instruction.ensures

pub returns : goal.returns
returns c = goes_all (in_inst c.args.arena.now) c.args.instructions.now c.loop-instruction.instruction-index c.loop-instruction-test.false c.loop-instruction.invariant
