use Rattle.std.proofs.Common.{sym, ap, ◌∙◌}
use Rattle.run_decode.specs.Scopes.Scopes.{to_of}
use Rattle.run_decode.proofs.OnScopes.Bounded.{goes_to}
use Rattle.run_decode.proofs.scopes.scope.FunctionScope.to.Goals as goal

pub returns-in-Some : goal.returns-in-Some
returns-in-Some c = goes_to c.args.self.now c.in-Some.id c.bounds.result.0 c.bounds.result.1 c.bounds.ensures ∙ ap (to_of c.args.self.now) (sym c.in-Some.is)

pub returns-in-None : goal.returns-in-None
returns-in-None c = ap (to_of c.args.self.now) (sym c.in-None.is)
