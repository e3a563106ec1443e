use Rattle.typed_runs.proofs.OnEdge.Ends.{ends_are_typed}
use Rattle.typed_runs.proofs.edge.law.ends_are_typed.Goals as goal

pub returns : goal.returns
returns c = ends_are_typed
