use Rattle.typed_runs.proofs.OnModules.Program.{valid_is_typed}
use Rattle.typed_runs.proofs.modules.law.a_valid_module_is_typed.Goals as goal

pub returns : goal.returns
returns c = valid_is_typed
