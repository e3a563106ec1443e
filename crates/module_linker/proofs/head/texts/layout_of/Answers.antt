use Rattle.std.proofs.Common.{sym, ap, ◌∙◌}
use Rattle.module_arena.specs.Lists.{Lists}
use Rattle.module_linker.proofs.OnHead.TextsOf.{layout_is}
use Rattle.module_linker.proofs.head.texts.layout_of.Goals as goal

pub returns : goal.returns
returns c = c.data_layout.ensures ∙ ap (λ (w : Lists). w.layout) c.arena.ensures.arena ∙ sym (layout_is c.args.part.now)
