use Rattle.std.proofs.Common.{subst}
use Rattle.run_decode.specs.Scopes.Scopes.{AreApart, Framed, labels_in}
use Rattle.run_decode.proofs.scopes.scope.FunctionScope.block.Goals as goal

pub returns-clause-apart : goal.returns-clause-apart
returns-clause-apart c = subst (λ (s : Framed). AreApart (labels_in s.lists s.function)) c.self.view_is c.self.invariant.labels
