use Rattle.std.proofs.Common.{◌≡◌, slice_get, Some, arith}
use Rattle.record_write.specs.Order.Bodies.{body_texts}
use Rattle.record_write.proofs.OnOrder.Gaining.{gains_none, gains_at, gains_all}
use Rattle.record_write.proofs.OnOrder.BodyKnown.{results_known}
use Rattle.record_write.proofs.order.gathered.add_bodies.Goals as goal

pub loop-number-init : goal.loop-number-init
loop-number-init c = gains_none c.args.table.now

pub add_body-requires : goal.add_body-requires
add_body-requires c =
    let at : slice_get c.args.arena.now.functions c.loop-number.number ≡ Some c.function.result.now = cc in
    results_known c.args.arena.now c.variable_count-count.ensures.good c.loop-number.number c.function.result.now at

pub loop-number-preserved : goal.loop-number-preserved
loop-number-preserved c =
    let at : slice_get c.args.arena.now.functions c.loop-number.number ≡ Some c.function.result.now = cc in
    gains_at body_texts c.args.arena.now.functions c.loop-number.number c.function.result.now at c.loop-number.invariant c.in_ok-add_body.ensures

pub returns : goal.returns
returns c = gains_all body_texts c.args.arena.now.functions c.loop-number.number (omega arith) c.loop-number.invariant
