use Rattle.name_rules.proofs.Told.{told_as_written}
use Rattle.name_rules.proofs.laws.numbers_are_told_as_written.Goals as goal

pub returns : goal.returns
returns c = told_as_written
