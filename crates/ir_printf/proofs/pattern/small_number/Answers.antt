use Rattle.std.proofs.Common.{arith}
use Rattle.ir_printf.proofs.Decimals.{too_large, at_the_end}
use Rattle.ir_printf.proofs.pattern.small_number.Goals as goal

pub returns-then-number-gt-MOST : goal.returns-then-number-gt-MOST
returns-then-number-gt-MOST c = too_large c.loop-digit.number c.loop-digit.digit-index c.args.digits.now (omega arith) c.loop-digit.invariant.digits (omega arith)

pub returns : goal.returns
returns c = at_the_end c.loop-digit.number c.loop-digit.digit-index c.args.digits.now (omega arith) c.loop-digit.invariant.digits c.loop-digit.invariant.small
