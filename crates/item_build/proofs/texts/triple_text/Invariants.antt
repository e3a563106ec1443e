use Rattle.std.proofs.Common.{◌≡◌, drop}
use Rattle.ir_syntax.specs.View.{items_view}
use Rattle.name_rules.specs.ModuleOf.{triple_in, text_in}
use Rattle.item_build.proofs.texts.triple_text.Given as goal

abbrev pub invariant-items : goal.invariant-items
invariant-items l = text_in triple_in (items_view l.items) ≡ text_in triple_in (items_view (drop l.item-index l.items))
