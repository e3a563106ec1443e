use Rattle.std.proofs.Common.{arith, sym}
use Rattle.ir_memory.proofs.OnMasked.Numbers.{below_more, times_fits}
use Rattle.ir_memory.proofs.Bytes.{number_of-step, number_of-spoiled}
use Rattle.ir_memory.proofs.cell.number_of.Goals as goal

pub returns-in_err-byte : goal.returns-in_err-byte
returns-in_err-byte c =
    let e = number_of-spoiled c.args.cells.now c.loop-left.left _ (omega arith) (omega arith) c.in_err-byte.ensures in
    rw c.from_residual.ensures (record { value = sym e; fits = tt })

pub overflow_mul-number : goal.overflow_mul-number
overflow_mul-number c =
    let most = times_fits c.loop-left.number _ c.loop-left.invariant.fits (omega arith) in omega (arith, most)

pub overflow_add-number : goal.overflow_add-number
overflow_add-number c =
    let most = times_fits c.loop-left.number _ c.loop-left.invariant.fits (omega arith) in omega (arith, most)

pub loop-left-preserved : goal.loop-left-preserved
loop-left-preserved c = record {
  within = omega arith;
  number = rw c.from.ensures (number_of-step c.args.cells.now c.loop-left.left _ _ _ (omega arith) (omega arith) c.in_ok-byte.ensures c.loop-left.invariant.number);
  fits = below_more c.loop-left.number c.from.result _ _ c.loop-left.invariant.fits (omega arith) (omega arith);
}
