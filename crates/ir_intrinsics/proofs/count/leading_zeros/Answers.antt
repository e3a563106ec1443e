use Rattle.std.proofs.Common.{sym, ◌∙◌, ap, arith, ◌≡◌, ◌-◌}
use lib.Count.{count_leading_zeros}
use Rattle.ir_eval.specs.declared.value.Scalar.TheVariants.{Int}
use Rattle.ir_intrinsics.proofs.Zeros.{counted}
use Rattle.ir_intrinsics.proofs.count.leading_zeros.Goals as goal

pub overflow_sub-result : goal.overflow_sub-result
overflow_sub-result c = let n = (counted c.args.width c.args.number c.requires.width c.requires.number).leading in omega (arith, n, c.from.ensures, c.from-2.ensures)

pub returns : goal.returns
returns c =
    let n = (counted c.args.width c.args.number c.requires.width c.requires.number).leading in
    let e : c.from.result - c.from-2.result ≡ count_leading_zeros c.args.width c.args.number = omega (arith, n, c.from.ensures, c.from-2.ensures) in
    rw (sym c.is_asked_for.ensures ∙ c.if-is_asked_for.false) (ap Int e)
