use Rattle.run_rules.proofs.OnLaws.RunsInSteps.{writes_first}
use Rattle.run_rules.proofs.laws.law.a_run_writes_before_it_reads.Goals as goal

pub returns : goal.returns
returns c = writes_first
