use Rattle.std.proofs.Common.{◌≡◌, drop}
use Rattle.ir_syntax.specs.View.{items_view}
use Rattle.name_rules.specs.ModuleOf.{layout_in, text_in}
use Rattle.item_build.proofs.texts.layout_text.Given as goal

abbrev pub invariant-items : goal.invariant-items
invariant-items l = text_in layout_in (items_view l.items) ≡ text_in layout_in (items_view (drop l.item-index l.items))
