use Rattle.run_rules.proofs.OnLaws.RunsInSteps.{steps_make_up_a_run}
use Rattle.run_rules.proofs.laws.law.steps_make_up_a_run.Goals as goal

pub returns : goal.returns
returns c = steps_make_up_a_run
