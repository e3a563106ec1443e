use Rattle.std.proofs.Common.{ap}
use Rattle.ir_tables.specs.Table.{codes_of}
use Rattle.ir_tables.specs.UndefinedKind.{undefined_of_code}
use Rattle.ir_tables.proofs.Tables.{place_below, absent, present}
use Rattle.ir_tables.proofs.UndefinedKindValues.{undefined_codes}
use Rattle.ir_tables.proofs.undefined_kind.UndefinedKind.of_code.Goals as goal

pub returns-in_err-place : goal.returns-in_err-place
unfolding undefined_of_code
returns-in_err-place c = let none = absent undefined_codes (ap codes_of c.table.ensures) c.in_err-place.ensures c.from_residual.ensures in record { exact = none.exact; value = none.value }

pub bounds-place : goal.bounds-place
bounds-place c = place_below undefined_codes (ap codes_of c.table.ensures) c.in_ok-place.ensures

pub returns : goal.returns
unfolding undefined_of_code
returns c = let found = present undefined_codes (ap codes_of c.table.ensures) c.in_ok-place.ensures in record { exact = (found _).exact; value = (found _).value }
