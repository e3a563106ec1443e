use Rattle.typed_runs.proofs.Steps.{step_typed}
use Rattle.typed_runs.proofs.law.steps_stay_typed.Goals as goal

pub returns : goal.returns
returns c = step_typed
