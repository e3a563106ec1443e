use Rattle.std.proofs.Common.{sym, ap, ◌∙◌}
use Rattle.module_arena.specs.Lists.{Lists}
use Rattle.module_linker.proofs.OnHead.TextsOf.{triple_is}
use Rattle.module_linker.proofs.head.texts.triple_of.Goals as goal

pub returns : goal.returns
returns c = c.triple.ensures ∙ ap (λ (w : Lists). w.triple) c.arena.ensures.arena ∙ sym (triple_is c.args.part.now)
