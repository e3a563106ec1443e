use Rattle.run_rules.proofs.OnPlayed.Whole.{early_ends_played}
use Rattle.run_rules.proofs.played.law.early_ends_are_played.Goals as goal

pub returns : goal.returns
returns c = early_ends_played
