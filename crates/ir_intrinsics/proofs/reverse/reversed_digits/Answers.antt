use Rattle.std.proofs.Common.{arith, ◌≡◌, subst}
use Rattle.ir_intrinsics.proofs.Digits.{IsSoFar, fits_more, one_more, all_done}
use Rattle.ir_intrinsics.proofs.reverse.reversed_digits.Goals as goal

pub overflow_mul-reversed : goal.overflow_mul-reversed
overflow_mul-reversed c = let f = fits_more c.args.base c.args.count c.args.number c.digits.left c.digits.reversed c.digits.rest c.requires.base c.digits-test.true c.requires.fits c.digits.invariant in omega (arith, f)

pub overflow_add-reversed : goal.overflow_add-reversed
overflow_add-reversed c = let f = fits_more c.args.base c.args.count c.args.number c.digits.left c.digits.reversed c.digits.rest c.requires.base c.digits-test.true c.requires.fits c.digits.invariant in omega (arith, f)

pub digits-preserved : goal.digits-preserved
digits-preserved c = one_more c.args.base c.args.count c.args.number c.digits.left c.digits.reversed c.digits.rest c.requires.base c.digits-test.true c.digits.invariant

pub returns : goal.returns
returns c =
    let none : c.digits.left ≡ 0 = omega (arith, c.digits-test.false) in
    all_done c.args.base c.args.count c.args.number c.digits.reversed c.digits.rest (subst (λ n. IsSoFar c.args.base c.args.count c.args.number n c.digits.reversed c.digits.rest) none c.digits.invariant)
