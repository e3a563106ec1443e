use Rattle.std.proofs.Common.{pos, ◌∙◌, sym}
use Rattle.ir_tables.specs.Flags.{has_flag}
use Rattle.ir_tables.specs.declared.flag.Flag.TheVariants.{Nuw, Nsw}
use Rattle.ir_eval.specs.Value.{signed, fits_unsigned, fits_signed}
use Rattle.ir_eval.proofs.Exact.{lost_unsigned, lost_signed, kept, not_asked, fitting, IsKept, signed_known, above_greatest, within_greatest}
use Rattle.ir_eval.proofs.conversion.truncated.Goals as goal
use Rattle.ir_eval.proofs.conversion.truncated.Goals.{else-has-via-then-has+else-number-greatest, else-has-via-else-has, else-has-2-via-then-has-2+else-not-fits_signed, else-has-2-via-else-has-2}

pub returns-then-number-greatest : goal.returns-then-number-greatest
returns-then-number-greatest c =
    lost_unsigned c.args.flags c.args.to _ _ (sym c.if-has.ensures) (above_greatest c.args.to c.greatest.result c.args.number c.greatest.ensures c.if-number-greatest.true)

pub returns-then-not-fits_signed : goal.returns-then-not-fits_signed
returns-then-not-fits_signed c =
    lost_signed c.args.flags c.args.to _ _ (sym c.if-has-2.ensures)
    (sym (signed_known c.args.to c.signed.result _ (record { sfits = c.signed.type_inv }) c.signed.ensures) ∙ sym c.if-not-fits_signed.ensures)

pub returns : goal.returns
returns c =
    let unsigned_kept : IsKept (has_flag c.args.flags Nuw) (fits_unsigned c.args.to (pos c.args.number)) =
    elim c.else-has.branch [
      | else-has-via-then-has+else-number-greatest w ↦ fitting _ _ (within_greatest c.args.to w.greatest.result c.args.number w.greatest.ensures w.if-number-greatest.false)
      | else-has-via-else-has w ↦ not_asked _ _ (sym w.if-has.ensures)
    ] in
    let signed_kept : IsKept (has_flag c.args.flags Nsw) (fits_signed c.args.to (signed c.args.from c.args.number)) =
    elim c.else-has-2.branch [
      | else-has-2-via-then-has-2+else-not-fits_signed w ↦ fitting _ _ (sym (signed_known c.args.to w.signed.result _ (record { sfits = w.signed.type_inv }) w.signed.ensures) ∙ sym w.if-not-fits_signed.ensures)
      | else-has-2-via-else-has-2 w ↦ not_asked _ _ (sym w.if-has-2.ensures)
    ] in
    kept c.args.flags c.args.to _ _ _ unsigned_kept signed_kept c.low_bits.ensures
