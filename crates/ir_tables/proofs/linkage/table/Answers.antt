use Rattle.std.proofs.Common.{lit<, refl}
use Rattle.ir_tables.specs.Linkage.{linkage_table}
use Rattle.ir_tables.proofs.Tables.{IsTable-tested}
use Rattle.ir_tables.proofs.linkage.table.Goals as goal

pub new-requires : goal.new-requires
new-requires c = (lit< tt, IsTable-tested _ linkage_table refl)
