use Rattle.std.proofs.Common.{ap, ◌%◌, ◌^◌, pos, ◌-ℤ◌, ◌∙◌, sym}
use Rattle.ir_tables.specs.Flags.{has_flag}
use Rattle.ir_eval.specs.Value.{signed, fits_unsigned, fits_signed}
use Rattle.ir_eval.proofs.Words.{low_bits_of_word}
use Rattle.ir_eval.proofs.Exact.{lost_unsigned, lost_signed, kept, not_asked, fitting, IsKept, difference_exact, difference_word}
use Rattle.ir_tables.specs.declared.flag.Flag.TheVariants.{Nuw, Nsw}
use Rattle.ir_eval.proofs.arithmetic.difference.Goals as goal
use Rattle.ir_eval.proofs.arithmetic.difference.Goals.{else-has-via-then-has+else-not-fits_unsigned, else-has-via-else-has, else-has-2-via-then-has-2+else-not-difference_fits, else-has-2-via-else-has-2}

pub returns-then-not-fits_unsigned : goal.returns-then-not-fits_unsigned
returns-then-not-fits_unsigned c =
    lost_unsigned c.args.flags c.args.width _ _ (sym c.if-has.ensures)
    (sym (difference_exact c.args.width c.args.a c.args.b c.checked_sub.result c.requires.a c.checked_sub.ensures) ∙ sym c.if-not-fits_unsigned.ensures)

pub returns-then-not-difference_fits : goal.returns-then-not-difference_fits
returns-then-not-difference_fits c =
    lost_signed c.args.flags c.args.width _ _ (sym c.if-has-2.ensures)
    (sym c.if-not-difference_fits.ensures)

pub returns : goal.returns
returns c =
    let unsigned_kept : IsKept (has_flag c.args.flags Nuw) (fits_unsigned c.args.width (pos c.args.a -ℤ pos c.args.b)) =
    elim c.else-has.branch [
      | else-has-via-then-has+else-not-fits_unsigned w ↦ fitting _ _ (sym (difference_exact c.args.width c.args.a c.args.b w.checked_sub.result c.requires.a w.checked_sub.ensures) ∙ sym w.if-not-fits_unsigned.ensures)
      | else-has-via-else-has w ↦ not_asked _ _ (sym w.if-has.ensures)
    ] in
    let signed_kept : IsKept (has_flag c.args.flags Nsw) (fits_signed c.args.width (signed c.args.width c.args.a -ℤ signed c.args.width c.args.b)) =
    elim c.else-has-2.branch [
      | else-has-2-via-then-has-2+else-not-difference_fits w ↦ fitting _ _ (sym w.if-not-difference_fits.ensures)
      | else-has-2-via-else-has-2 w ↦ not_asked _ _ (sym w.if-has-2.ensures)
    ] in
    kept c.args.flags c.args.width _ _ _ unsigned_kept signed_kept (c.low_bits.ensures ∙ ap (λ word. word % 2 ^ c.args.width) (difference_word c.args.a c.args.b c.ranges.a.fits c.ranges.b.fits) ∙ low_bits_of_word c.args.width (pos c.args.a -ℤ pos c.args.b) c.requires.width)
