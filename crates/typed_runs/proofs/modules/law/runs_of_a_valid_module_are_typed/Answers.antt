use Rattle.typed_runs.proofs.OnModules.Runs.{runs_are_typed}
use Rattle.typed_runs.proofs.modules.law.runs_of_a_valid_module_are_typed.Goals as goal

pub returns : goal.returns
returns c = runs_are_typed
