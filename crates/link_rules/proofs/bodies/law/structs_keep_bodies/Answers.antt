use Rattle.link_rules.proofs.OnBodies.SameBodies.{bodies_kept}
use Rattle.link_rules.proofs.bodies.law.structs_keep_bodies.Goals as goal

pub returns : goal.returns
returns c = bodies_kept
