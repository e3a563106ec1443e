use Rattle.std.proofs.Common.{◌≡◌, ◌∙◌, ap, sym, arith, ◌%◌}
use Rattle.std.proofs.lemmas.Nat.{mod_below}
use Rattle.ir_eval.specs.declared.value.Scalar.TheVariants.{Int}
use Rattle.ir_intrinsics.specs.Results.{shifted_up_of}
use Rattle.ir_intrinsics.proofs.Halves.{up_by_none, up_by}
use Rattle.ir_intrinsics.proofs.funnel.shifted_up.Goals as goal

pub returns-then-up-eq0 : goal.returns-then-up-eq0
returns-then-up-eq0 c =
    let none : c.args.amount % c.args.width ≡ 0 = search (arith, c.if-up-eq0.true, c.from.ensures) in
    ap Int (sym (up_by_none c.args.width c.args.high c.args.low c.requires.high c.requires.low) ∙ ap (shifted_up_of c.args.width c.args.high c.args.low) (sym none))

pub returns : goal.returns
returns c =
    let below = mod_below c.args.amount c.args.width c.requires.width.some in
    let e : c.args.amount % c.from.result ≡ c.args.amount % c.args.width = ap (λ n. c.args.amount % n) c.from.ensures in
    ap Int (c.joined.ensures ∙ sym (up_by c.args.width c.args.high c.args.low (c.args.amount % c.from.result) (omega (arith, below, e)) c.requires.low) ∙ ap (shifted_up_of c.args.width c.args.high c.args.low) e)
