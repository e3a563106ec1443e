use Rattle.typed_runs.proofs.OnAction.Operations.{instructions_are_typed}
use Rattle.typed_runs.proofs.action.law.instructions_are_typed.Goals as goal

pub returns : goal.returns
returns c = instructions_are_typed
