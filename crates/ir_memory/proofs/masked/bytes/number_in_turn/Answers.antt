use Rattle.std.proofs.Common.{◌-◌, ◌+◌, ◌*◌, ap, ◌∙◌, sym, arith}
use Rattle.ir_memory.proofs.OnMasked.Numbers.{number-step, below_more, times_fits}
use Rattle.ir_memory.proofs.masked.bytes.number_in_turn.Goals as goal

pub overflow_mul-number : goal.overflow_mul-number
overflow_mul-number c =
    let most = times_fits c.loop-left.number _ c.loop-left.invariant.fits (omega arith) in omega (arith, most)

pub overflow_add-number : goal.overflow_add-number
overflow_add-number c =
    let most = times_fits c.loop-left.number _ c.loop-left.invariant.fits (omega arith) in omega (arith, most, c.type_inv.bytes (c.loop-left.left - 1))

pub loop-left-preserved : goal.loop-left-preserved
loop-left-preserved c = record {
  within = omega arith;
  number = number-step c.args.bytes.now c.loop-left.left c.loop-left.number (omega arith) (omega arith) c.loop-left.invariant.number ∙ ap (λ b. c.loop-left.number * 256 + b) (sym c.from.ensures);
  fits = below_more c.loop-left.number c.from.result _ _ c.loop-left.invariant.fits (omega (arith, c.type_inv.bytes (c.loop-left.left - 1))) (omega arith);
}
