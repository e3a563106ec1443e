use Rattle.std.proofs.Common.{◌≡◌, ◌∙◌, ap, sym, arith, ◌%◌}
use Rattle.std.proofs.lemmas.Nat.{mod_below}
use Rattle.ir_eval.specs.declared.value.Scalar.TheVariants.{Int}
use Rattle.ir_intrinsics.specs.Results.{shifted_down_of}
use Rattle.ir_intrinsics.proofs.Halves.{down_by_none, down_from_up}
use Rattle.ir_intrinsics.proofs.funnel.shifted_down.Goals as goal

pub returns-then-down-eq0 : goal.returns-then-down-eq0
returns-then-down-eq0 c =
    let none : c.args.amount % c.args.width ≡ 0 = search (arith, c.if-down-eq0.true, c.from.ensures) in
    ap Int (sym (down_by_none c.args.width c.args.high c.args.low c.requires.low) ∙ ap (shifted_down_of c.args.width c.args.high c.args.low) (sym none))

pub returns : goal.returns
returns c =
    let below = mod_below c.args.amount c.args.width c.requires.width.some in
    let e : c.args.amount % c.from.result ≡ c.args.amount % c.args.width = ap (λ n. c.args.amount % n) c.from.ensures in
    ap Int (c.joined.ensures ∙ down_from_up c.args.width c.args.high c.args.low (c.args.amount % c.from.result) (omega (arith, below, e)) c.requires.low ∙ ap (shifted_down_of c.args.width c.args.high c.args.low) e)
