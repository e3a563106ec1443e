use Rattle.record_law.proofs.OnBodies.WholeBody.{body_back}
use Rattle.record_law.proofs.bodies.laws.bodies_are_read_back.Goals as goal

pub returns : goal.returns
returns c = body_back
