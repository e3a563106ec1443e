use Rattle.std.proofs.Common.{ap}
use Rattle.ir_tables.specs.Table.{codes_of}
use Rattle.ir_tables.specs.Intrinsic.{intrinsic_of_code}
use Rattle.ir_tables.proofs.Tables.{place_below, absent, present}
use Rattle.ir_tables.proofs.IntrinsicValues.{intrinsic_codes}
use Rattle.ir_tables.proofs.intrinsic.Intrinsic.of_code.Goals as goal

pub returns-in_err-place : goal.returns-in_err-place
unfolding intrinsic_of_code
returns-in_err-place c = let none = absent intrinsic_codes (ap codes_of c.table.ensures) c.in_err-place.ensures c.from_residual.ensures in record { exact = none.exact; value = none.value }

pub bounds-place : goal.bounds-place
bounds-place c = place_below intrinsic_codes (ap codes_of c.table.ensures) c.in_ok-place.ensures

pub returns : goal.returns
unfolding intrinsic_of_code
returns c = let found = present intrinsic_codes (ap codes_of c.table.ensures) c.in_ok-place.ensures in record { exact = (found _).exact; value = (found _).value }
