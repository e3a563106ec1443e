use Rattle.std.proofs.Common.{sym, ◌∙◌, refl}
use Rattle.ir_intrinsics.proofs.Signs.{absolute_positive, absolute_negative}
use Rattle.ir_intrinsics.proofs.absolute.absolute.Goals as goal

pub returns-then-not-has_sign : goal.returns-then-not-has_sign
returns-then-not-has_sign c = absolute_positive c.args.width c.args.number c.args.asked _ c.requires.width c.has_sign.ensures c.if-not-has_sign.true

pub returns-then-is_asked_for : goal.returns-then-is_asked_for
returns-then-is_asked_for c =
    let all = absolute_negative c.args.width c.args.number c.args.asked c.greatest.result _ _ c.requires.width c.requires.number c.has_sign.ensures c.if-not-has_sign.false c.greatest.ensures refl in
    (rw (sym c.is_asked_for.ensures ∙ c.if-is_asked_for.true) at all)

pub returns : goal.returns
returns c =
    let all = absolute_negative c.args.width c.args.number c.args.asked c.greatest.result _ _ c.requires.width c.requires.number c.has_sign.ensures c.if-not-has_sign.false c.greatest.ensures refl in
    (rw (sym c.is_asked_for.ensures ∙ c.if-is_asked_for.false) at all)
