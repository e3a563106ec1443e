use Rattle.std.proofs.Common.{◌+ℤ◌}
use Rattle.ir_intrinsics.proofs.Nearest.{nearest_of}
use Rattle.ir_intrinsics.proofs.saturate.signed_saturated_sum.Goals as goal

pub returns : goal.returns
returns c =
    nearest_of ◌+ℤ◌ c.args.width c.signed.result c.signed-2.result _ _ c.saturating_add.result c.nearest.result c.requires.width (record { sfits = c.signed.type_inv }) (record { sfits = c.signed-2.type_inv })
    (record { sfits = c.saturating_add.type_inv }) c.signed.ensures c.signed-2.ensures c.saturating_add.ensures c.nearest.ensures
