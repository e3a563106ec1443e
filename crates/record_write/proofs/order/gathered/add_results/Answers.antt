use Rattle.std.proofs.Common.{arith}
use Rattle.module_arena.specs.Lists.{value_names}
use Rattle.record_write.specs.Order.Bodies.{result_texts}
use Rattle.record_write.proofs.OnOrder.Gaining.{gains_none, gains_more, gains_all}
use Rattle.record_write.proofs.order.gathered.add_results.Goals as goal

pub loop-instruction-init : goal.loop-instruction-init
loop-instruction-init c = gains_none c.args.table.now

pub loop-instruction-preserved : goal.loop-instruction-preserved
loop-instruction-preserved c = gains_more (result_texts (value_names c.args.function.now)) c.args.instructions.now c.loop-instruction.instruction-index c.instruction-item.result (omega arith) c.instruction-item.is c.loop-instruction.invariant c.in_ok-add_result.ensures

pub returns : goal.returns
returns c = gains_all (result_texts (value_names c.args.function.now)) c.args.instructions.now c.loop-instruction.instruction-index (omega arith) c.loop-instruction.invariant
