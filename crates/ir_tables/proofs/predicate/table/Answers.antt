use Rattle.std.proofs.Common.{lit<, refl}
use Rattle.ir_tables.specs.Predicate.{predicate_table}
use Rattle.ir_tables.proofs.Tables.{IsTable-tested}
use Rattle.ir_tables.proofs.predicate.table.Goals as goal

pub new-requires : goal.new-requires
new-requires c = (lit< tt, IsTable-tested _ predicate_table refl)
