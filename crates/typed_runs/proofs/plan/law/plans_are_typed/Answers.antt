use Rattle.typed_runs.proofs.OnPlan.Plans.{plans_are_typed}
use Rattle.typed_runs.proofs.plan.law.plans_are_typed.Goals as goal

pub returns : goal.returns
returns c = plans_are_typed
