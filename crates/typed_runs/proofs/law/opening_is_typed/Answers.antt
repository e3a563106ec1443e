use Rattle.typed_runs.proofs.Opening.{begun_typed}
use Rattle.typed_runs.proofs.law.opening_is_typed.Goals as goal

pub returns : goal.returns
returns c = begun_typed
