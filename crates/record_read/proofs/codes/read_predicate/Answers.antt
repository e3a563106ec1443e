use Rattle.std.proofs.Common.{sym}
use Rattle.ir_tables.specs.declared.predicate.Predicate.TheVariants.{Eq}
use Rattle.ir_tables.specs.Predicate.{predicate_code, predicate_of_code}
use Rattle.record_read.proofs.Coded.{coded_some, coded_none}
use Rattle.record_read.proofs.codes.read_predicate.Goals as goal

pub returns-in-Some : goal.returns-in-Some
returns-in-Some c = coded_some predicate_code predicate_of_code Eq c.in-Some.predicate _ _ _ c.number-number.ensures (sym c.in-Some.ensures)

pub returns-in-None : goal.returns-in-None
returns-in-None c = coded_none predicate_code predicate_of_code Eq _ _ _ _ c.number-number.ensures (sym c.in-None.ensures) c.refuse.ensures
