use Rattle.bit_dump.proofs.OnWalk.Scopes.{give_is}
use Rattle.bit_dump.proofs.walk.scope.WalkScope.give.Goals as goal

pub returns : goal.returns
returns c = give_is c.args.self.now _ _ _ c.self.inside.given c.give.new.self c.args.id c.args.start c.self.view_is c.in_ok-give.ensures.given
