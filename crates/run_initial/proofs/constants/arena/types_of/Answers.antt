use Rattle.std.proofs.Common.{ap, ◌∙◌}
use Rattle.module_arena.specs.Lists.{Lists}
use Rattle.run_initial.proofs.constants.arena.types_of.Goals as goal

pub returns : goal.returns
returns c = c.types.ensures ∙ ap (λ (a : Lists). a.table) (c.arena.ensures.arena ∙ c.program.ensures)
