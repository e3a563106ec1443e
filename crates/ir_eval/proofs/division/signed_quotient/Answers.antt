use Rattle.std.proofs.Common.{◌≡◌, sym, ◌∙◌, ap, true, pos}
use Rattle.std.specs.Prelude.{FitsSigned, int_div, int_rem}
use Rattle.std.specs.Int.{w128}
use Rattle.std.specs.Ordering.{int_eq}
use Rattle.std.proofs.lemmas.Int.{quot_is}
use Rattle.ir_tables.specs.Flags.{has_flag}
use Rattle.ir_tables.specs.declared.flag.Flag.TheVariants.{Exact}
use Rattle.ir_eval.specs.Value.{fits_signed, reduced}
use Rattle.ir_eval.proofs.Exact.{IsKept, fitting, not_asked}
use Rattle.ir_eval.proofs.Quotients.{quotient_fits, quotient_passed, fits_word, no_remainder, some_remainder, lost_exact, kept_exact}
use Rattle.ir_eval.proofs.division.signed_quotient.Goals as goal
use Rattle.ir_eval.proofs.division.signed_quotient.Goals.{else-has-via-then-has+else-dividend-divisor-ne0, else-has-via-else-has}

pub returns-then-dividend-divisor-ne0 : goal.returns-then-dividend-divisor-ne0
returns-then-dividend-divisor-ne0 c =
    let x = c.signed-dividend.result in
    let y = c.signed-divisor.result in
    let fits_x : FitsSigned w128 x = record { sfits = c.signed-dividend.type_inv } in
    let fits_y : FitsSigned w128 y = record { sfits = c.signed-divisor.type_inv } in
    let fits : fits_signed c.args.width (int_div x y) ≡ true = ap (fits_signed c.args.width) (sym (quotient_passed x y fits_x fits_y)) ∙ quotient_fits c.args.width _ c.checked_div-exact.result _ c.checked_div-exact.ensures c.if-not-fits_signed.ensures in
    lost_exact c.args.flags c.args.width c.args.a c.args.b x y c.signed-dividend.ensures c.signed-divisor.ensures fits (sym c.if-has.ensures) (some_remainder x y fits_x fits_y c.if-dividend-divisor-ne0.true)

pub returns : goal.returns
returns c =
    let x = c.signed-dividend.result in
    let y = c.signed-divisor.result in
    let fits_x : FitsSigned w128 x = record { sfits = c.signed-dividend.type_inv } in
    let fits_y : FitsSigned w128 y = record { sfits = c.signed-divisor.type_inv } in
    let fits : fits_signed c.args.width (int_div x y) ≡ true = ap (fits_signed c.args.width) (sym (quotient_passed x y fits_x fits_y)) ∙ quotient_fits c.args.width _ c.checked_div-exact.result _ c.checked_div-exact.ensures c.if-not-fits_signed.ensures in
    let exact_kept : IsKept (has_flag c.args.flags Exact) (int_eq (int_rem x y) (pos 0)) =
    elim c.else-has.branch [
      | else-has-via-then-has+else-dividend-divisor-ne0 w ↦ fitting _ _ (ap (λ z. int_eq z (pos 0)) (no_remainder x y fits_x fits_y w.if-dividend-divisor-ne0.false))
      | else-has-via-else-has w ↦ not_asked _ _ (sym w.if-has.ensures)
    ] in
    let quotient = quot_is w128 x y fits_x fits_y (fits_word c.args.width _ c.requires.width fits) in
    kept_exact c.args.flags c.args.width c.args.a c.args.b c.reduced.result x y c.signed-dividend.ensures c.signed-divisor.ensures fits exact_kept (c.reduced.ensures ∙ ap (reduced c.args.width) quotient)
