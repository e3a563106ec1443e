use Rattle.std.proofs.Common.{◌+ℤ◌, ◌∙◌}
use Rattle.std.specs.Int.{w128}
use Rattle.ir_eval.proofs.Words.{bounds}
use Rattle.ir_eval.proofs.Exact.{signed_operation}
use Rattle.ir_eval.proofs.fitting.sum_fits.Goals as goal

pub returns : goal.returns
returns c =
    c.fits_signed.ensures
    ∙ signed_operation w128 ◌+ℤ◌ c.args.width c.signed-left.result c.signed-right.result _ _ c.checked_add.result (bounds c.args.width c.requires.width).most (record { sfits = c.signed-left.type_inv }) (record { sfits = c.signed-right.type_inv }) c.signed-left.ensures c.signed-right.ensures c.checked_add.ensures
