use Rattle.typed_runs.proofs.OnBody.Bodies.{bodies_are_asked}
use Rattle.typed_runs.proofs.body.law.bodies_are_asked.Goals as goal

pub returns : goal.returns
returns c = bodies_are_asked
