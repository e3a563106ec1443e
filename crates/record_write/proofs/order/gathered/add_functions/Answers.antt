use Rattle.std.proofs.Common.{◌≡◌, slice_get, Some, arith}
use Rattle.record_write.proofs.OnOrder.Gaining.{gains_none, gains_named, gains_named_all}
use Rattle.record_write.proofs.order.gathered.add_functions.Goals as goal

pub loop-number-init : goal.loop-number-init
loop-number-init c = gains_none c.args.table.now

pub loop-number-preserved : goal.loop-number-preserved
loop-number-preserved c =
    let at : slice_get c.args.arena.now.functions c.loop-number.number ≡ Some c.function.result.now = cc in
    let is : c.bytes.result.now ≡ c.function.result.now.name = cc in
    gains_named (λ x. x.name) c.args.arena.now.functions c.loop-number.number c.function.result.now c.bytes.result.now at is c.loop-number.invariant c.in_ok-add.ensures

pub returns : goal.returns
returns c = gains_named_all (λ x. x.name) c.args.arena.now.functions c.loop-number.number (omega arith) c.loop-number.invariant
