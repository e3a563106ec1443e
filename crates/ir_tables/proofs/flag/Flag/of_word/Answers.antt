use Rattle.std.proofs.Common.{ap}
use Rattle.ir_tables.specs.Table.{words}
use Rattle.ir_tables.specs.Flag.{flag_of_word}
use Rattle.ir_tables.proofs.Tables.{place_below, absent, present}
use Rattle.ir_tables.proofs.FlagValues.{flag_words}
use Rattle.ir_tables.proofs.flag.Flag.of_word.Goals as goal

pub returns-in_err-place : goal.returns-in_err-place
unfolding flag_of_word
returns-in_err-place c = let none = absent flag_words (ap words c.table.ensures) c.in_err-place.ensures c.from_residual.ensures in record { exact = none.exact; value = none.value }

pub bounds-place : goal.bounds-place
bounds-place c = place_below flag_words (ap words c.table.ensures) c.in_ok-place.ensures

pub returns : goal.returns
unfolding flag_of_word
returns c = let found = present flag_words (ap words c.table.ensures) c.in_ok-place.ensures in record { exact = (found _).exact; value = (found _).value }
