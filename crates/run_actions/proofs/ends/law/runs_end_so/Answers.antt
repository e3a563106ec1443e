use Rattle.run_actions.proofs.OnEnds.EndsSo.{runs_so}
use Rattle.run_actions.proofs.ends.law.runs_end_so.Goals as goal

pub returns : goal.returns
returns c = runs_so
