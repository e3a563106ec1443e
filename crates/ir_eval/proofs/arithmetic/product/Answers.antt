use Rattle.std.proofs.Common.{pos, ◌*ℤ◌, ◌∙◌, sym}
use Rattle.ir_tables.specs.Flags.{has_flag}
use Rattle.ir_eval.specs.Value.{signed, fits_unsigned, fits_signed}
use Rattle.ir_eval.proofs.Words.{low_bits_of_word}
use Rattle.ir_eval.proofs.Exact.{lost_unsigned, lost_signed, kept, not_asked, fitting, IsKept, unsigned_exact}
use Rattle.ir_tables.specs.declared.flag.Flag.TheVariants.{Nuw, Nsw}
use Rattle.ir_eval.proofs.arithmetic.product.Goals as goal
use Rattle.ir_eval.proofs.arithmetic.product.Goals.{else-has-via-then-has+else-not-fits_unsigned, else-has-via-else-has, else-has-2-via-then-has-2+else-not-product_fits, else-has-2-via-else-has-2}

pub returns-then-not-fits_unsigned : goal.returns-then-not-fits_unsigned
returns-then-not-fits_unsigned c =
    lost_unsigned c.args.flags c.args.width _ _ (sym c.if-has.ensures)
    (sym (unsigned_exact c.args.width _ c.checked_mul.result c.requires.width c.checked_mul.ensures) ∙ sym c.if-not-fits_unsigned.ensures)

pub returns-then-not-product_fits : goal.returns-then-not-product_fits
returns-then-not-product_fits c =
    lost_signed c.args.flags c.args.width _ _ (sym c.if-has-2.ensures)
    (sym c.if-not-product_fits.ensures)

pub returns : goal.returns
returns c =
    let unsigned_kept : IsKept (has_flag c.args.flags Nuw) (fits_unsigned c.args.width (pos c.args.a *ℤ pos c.args.b)) =
    elim c.else-has.branch [
      | else-has-via-then-has+else-not-fits_unsigned w ↦ fitting _ _ (sym (unsigned_exact c.args.width _ w.checked_mul.result c.requires.width w.checked_mul.ensures) ∙ sym w.if-not-fits_unsigned.ensures)
      | else-has-via-else-has w ↦ not_asked _ _ (sym w.if-has.ensures)
    ] in
    let signed_kept : IsKept (has_flag c.args.flags Nsw) (fits_signed c.args.width (signed c.args.width c.args.a *ℤ signed c.args.width c.args.b)) =
    elim c.else-has-2.branch [
      | else-has-2-via-then-has-2+else-not-product_fits w ↦ fitting _ _ (sym w.if-not-product_fits.ensures)
      | else-has-2-via-else-has-2 w ↦ not_asked _ _ (sym w.if-has-2.ensures)
    ] in
    kept c.args.flags c.args.width _ _ _ unsigned_kept signed_kept (c.low_bits.ensures ∙ low_bits_of_word c.args.width (pos c.args.a *ℤ pos c.args.b) c.requires.width)
