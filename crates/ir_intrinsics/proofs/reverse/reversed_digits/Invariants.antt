use Rattle.ir_intrinsics.proofs.Digits.{IsSoFar}
use Rattle.ir_intrinsics.proofs.reverse.reversed_digits.Given as goal

abbrev pub invariant-digits : goal.invariant-digits
invariant-digits l = IsSoFar l.fn.base l.fn.count l.fn.number l.left l.reversed l.rest

abbrev pub decreases-digits : goal.decreases-digits
decreases-digits l = l.left
