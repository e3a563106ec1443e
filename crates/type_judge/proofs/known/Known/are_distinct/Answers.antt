use Rattle.type_judge.specs.Gathered.{IsKnown}
use Rattle.type_judge.proofs.known.Known.are_distinct.Goals as goal

pub returns : goal.returns
unfolding IsKnown
returns c = c.requires.globals.distinct
