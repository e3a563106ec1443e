use Rattle.std.proofs.Common.{sym, ap, ◌∙◌}
use Rattle.module_arena.specs.Lists.{Lists}
use Rattle.module_linker.proofs.OnHead.TextsOf.{source_is}
use Rattle.module_linker.proofs.head.texts.source_of.Goals as goal

pub returns : goal.returns
returns c = c.source.ensures ∙ ap (λ (w : Lists). w.source) c.arena.ensures.arena ∙ sym (source_is c.args.part.now)
