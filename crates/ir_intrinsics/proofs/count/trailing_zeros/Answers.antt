use Rattle.std.proofs.Common.{sym, ◌∙◌, ap, ◌≡◌}
use lib.Count.{count_trailing_zeros}
use Rattle.ir_eval.specs.declared.value.Scalar.TheVariants.{Int}
use Rattle.ir_intrinsics.proofs.Zeros.{trailing_least}
use Rattle.ir_intrinsics.proofs.count.trailing_zeros.Goals as goal

pub returns : goal.returns
returns c =
    let e : c.min.result ≡ count_trailing_zeros c.args.width c.args.number = rw (c.from.ensures, c.from-2.ensures) at c.min.ensures ∙ trailing_least c.args.width c.args.number c.requires.width c.requires.number in
    rw (sym c.is_asked_for.ensures ∙ c.if-is_asked_for.false) (ap Int e)
