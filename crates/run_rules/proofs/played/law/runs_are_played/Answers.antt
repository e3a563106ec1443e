use Rattle.run_rules.proofs.OnPlayed.Whole.{runs_played}
use Rattle.run_rules.proofs.played.law.runs_are_played.Goals as goal

pub returns : goal.returns
returns c = runs_played
