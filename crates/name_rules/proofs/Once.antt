-- A text reads to at most one module.
use Rattle.std.proofs.Common.{ap, sym, ◌∙◌}
use Rattle.ir_syntax.proofs.Results.{one_items}
use Rattle.name_rules.specs.ModuleOf.{module_of_items}
use Rattle.name_rules.specs.Laws.{ReadsOnce}

pub reads_once : ReadsOnce
reads_once text m n h g =
    h.resolves.joined
    ∙ ap module_of_items (one_items text g.items h.items g.has_items h.has_items)
    ∙ sym g.resolves.joined
