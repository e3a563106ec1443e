use Rattle.extract_rules.proofs.Closure.{times_are_enough}
use Rattle.extract_rules.proofs.laws.choosing_ends.Goals as goal

pub returns : goal.returns
returns c = times_are_enough
