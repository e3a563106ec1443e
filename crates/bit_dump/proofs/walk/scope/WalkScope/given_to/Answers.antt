use Rattle.std.proofs.Common.{◌∙◌}
use Rattle.bit_dump.proofs.OnWalk.Scopes.{given_count}
use Rattle.bit_dump.proofs.walk.scope.WalkScope.given_to.Goals as goal

pub returns-clause-value : goal.returns-clause-value
returns-clause-value c = c.count.ensures.value ∙ given_count c.args.self.now _ _ _ c.self.inside.given c.args.id c.self.view_is
