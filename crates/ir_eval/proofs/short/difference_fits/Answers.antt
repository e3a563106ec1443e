use Rattle.std.proofs.Common.{◌-ℤ◌, ◌∙◌}
use Rattle.std.specs.Int.{w64}
use Rattle.ir_eval.proofs.Words.{short_bound}
use Rattle.ir_eval.proofs.Exact.{signed_operation}
use Rattle.ir_eval.proofs.short.difference_fits.Goals as goal

pub returns : goal.returns
returns c =
    c.fits_signed.ensures
    ∙ signed_operation w64 ◌-ℤ◌ c.args.width c.signed-left.result c.signed-right.result _ _ c.checked_sub.result (short_bound c.args.width c.requires.short) (record { sfits = c.signed-left.type_inv }) (record { sfits = c.signed-right.type_inv }) c.signed-left.ensures c.signed-right.ensures c.checked_sub.ensures
