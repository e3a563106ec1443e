use Rattle.std.proofs.Common.{◌≡◌, take}
use Rattle.ir_syntax.specs.View.{items_view}
use Rattle.name_rules.specs.ModuleOf.{structs_in}
use Rattle.type_judge.specs.Order.Mentions.{lists_from}
use Rattle.type_judge.specs.Order.Order.{mention_lists}
use Rattle.type_judge.proofs.order.mentions.all_mentions.Given as goal

abbrev pub invariant-items : goal.invariant-items
invariant-items l = mention_lists l.all.items ≡ lists_from l.numbers 0 (structs_in (items_view (take l.item-index l.item-items)))
