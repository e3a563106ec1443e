use Rattle.std.proofs.Common.{ap, ◌∙◌}
use Rattle.module_arena.specs.Lists.{Lists}
use Rattle.run_decode.specs.Scopes.Scopes.{Framed}
use Rattle.run_decode.proofs.scopes.scope.FunctionScope.types.Goals as goal

pub returns : goal.returns
returns c = c.types.ensures ∙ ap (λ (a : Lists). a.table) (c.arena.ensures.arena ∙ c.program.ensures ∙ ap (λ (s : Framed). s.lists) c.self.view_is)
