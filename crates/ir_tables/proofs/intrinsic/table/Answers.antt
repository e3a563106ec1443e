use Rattle.std.proofs.Common.{lit<, refl}
use Rattle.ir_tables.specs.Intrinsic.{intrinsic_table}
use Rattle.ir_tables.proofs.Tables.{IsTable-tested}
use Rattle.ir_tables.proofs.intrinsic.table.Goals as goal

pub new-requires : goal.new-requires
new-requires c = (lit< tt, IsTable-tested _ intrinsic_table refl)
