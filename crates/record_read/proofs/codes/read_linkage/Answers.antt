use Rattle.std.proofs.Common.{sym}
use Rattle.ir_tables.specs.declared.linkage.Linkage.TheVariants.{External}
use Rattle.ir_tables.specs.Linkage.{linkage_code, linkage_of_code}
use Rattle.record_read.proofs.Coded.{coded_some, coded_none}
use Rattle.record_read.proofs.codes.read_linkage.Goals as goal

pub returns-in-Some : goal.returns-in-Some
returns-in-Some c = coded_some linkage_code linkage_of_code External c.in-Some.linkage _ _ _ c.number-number.ensures (sym c.in-Some.ensures)

pub returns-in-None : goal.returns-in-None
returns-in-None c = coded_none linkage_code linkage_of_code External _ _ _ _ c.number-number.ensures (sym c.in-None.ensures) c.refuse.ensures
