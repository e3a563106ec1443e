use Rattle.std.proofs.Common.{pos, ◌*ℤ◌, ◌*◌, ◌^◌, ◌∙◌, sym}
use Rattle.ir_tables.specs.Flags.{has_flag}
use Rattle.ir_tables.specs.declared.flag.Flag.TheVariants.{Nuw, Nsw}
use Rattle.ir_eval.specs.Value.{signed, fits_unsigned, fits_signed}
use Rattle.ir_eval.proofs.Words.{low_bits_of_word}
use Rattle.ir_eval.proofs.Exact.{lost_unsigned, lost_signed, kept, not_asked, fitting, IsKept, signed_known, above_greatest, within_greatest}
use Rattle.ir_eval.proofs.Scaled.{fits_unsigned-scaled, fits_signed-scaled, shifted_left_within}
use Rattle.ir_eval.proofs.shift.shifted_left.Goals as goal
use Rattle.ir_eval.proofs.shift.shifted_left.Goals.{else-has-via-then-has+else-number-greatest, else-has-via-else-has, else-has-2-via-then-has-2+else-not-fits_signed, else-has-2-via-else-has-2}

pub returns-then-number-greatest : goal.returns-then-number-greatest
returns-then-number-greatest c =
    shifted_left_within c.args.flags c.args.width c.args.number c.args.amount _ c.if-amount-width.false
    (lost_unsigned c.args.flags c.args.width _ _ (sym c.if-has.ensures)
    (fits_unsigned-scaled c.args.width c.args.number c.args.amount c.if-amount-width.false
    ∙ above_greatest _ c.greatest.result c.args.number c.greatest.ensures c.if-number-greatest.true))

pub returns-then-not-fits_signed : goal.returns-then-not-fits_signed
returns-then-not-fits_signed c =
    shifted_left_within c.args.flags c.args.width c.args.number c.args.amount _ c.if-amount-width.false
    (lost_signed c.args.flags c.args.width _ _ (sym c.if-has-2.ensures)
    (fits_signed-scaled c.args.width c.args.amount (signed c.args.width c.args.number) c.if-amount-width.false
    ∙ sym (signed_known _ c.signed.result _ (record { sfits = c.signed.type_inv }) c.signed.ensures) ∙ sym c.if-not-fits_signed.ensures))

pub returns : goal.returns
returns c =
    let unsigned_kept : IsKept (has_flag c.args.flags Nuw) (fits_unsigned c.args.width (pos c.args.number *ℤ pos (2 ^ c.args.amount))) =
    elim c.else-has.branch [
      | else-has-via-then-has+else-number-greatest w ↦ fitting _ _
          (fits_unsigned-scaled c.args.width c.args.number c.args.amount c.if-amount-width.false
          ∙ within_greatest _ w.greatest.result c.args.number w.greatest.ensures w.if-number-greatest.false)
      | else-has-via-else-has w ↦ not_asked _ _ (sym w.if-has.ensures)
    ] in
    let signed_kept : IsKept (has_flag c.args.flags Nsw) (fits_signed c.args.width (signed c.args.width c.args.number *ℤ pos (2 ^ c.args.amount))) =
    elim c.else-has-2.branch [
      | else-has-2-via-then-has-2+else-not-fits_signed w ↦ fitting _ _
          (fits_signed-scaled c.args.width c.args.amount (signed c.args.width c.args.number) c.if-amount-width.false
          ∙ sym (signed_known _ w.signed.result _ (record { sfits = w.signed.type_inv }) w.signed.ensures) ∙ sym w.if-not-fits_signed.ensures)
      | else-has-2-via-else-has-2 w ↦ not_asked _ _ (sym w.if-has-2.ensures)
    ] in
    shifted_left_within c.args.flags c.args.width c.args.number c.args.amount _ c.if-amount-width.false
    (kept c.args.flags c.args.width _ _ _ unsigned_kept signed_kept (c.low_bits.ensures ∙ low_bits_of_word c.args.width (pos (c.args.number * 2 ^ c.args.amount)) c.requires.width))
