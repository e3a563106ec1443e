use Rattle.std.proofs.Common.{arith}
use Rattle.record_write.specs.Order.Bodies.{local_text}
use Rattle.record_write.proofs.OnOrder.Gaining.{gains_none, gains_more, gains_all}
use Rattle.record_write.proofs.order.gathered.add_parameters.Goals as goal

pub loop-parameter-init : goal.loop-parameter-init
loop-parameter-init c = gains_none c.args.table.now

pub loop-parameter-preserved : goal.loop-parameter-preserved
loop-parameter-preserved c = gains_more (λ p. local_text p.name) c.args.parameters.now c.loop-parameter.parameter-index c.parameter-item.result (omega arith) c.parameter-item.is c.loop-parameter.invariant c.in_ok-add_local.ensures

pub returns : goal.returns
returns c = gains_all (λ p. local_text p.name) c.args.parameters.now c.loop-parameter.parameter-index (omega arith) c.loop-parameter.invariant
