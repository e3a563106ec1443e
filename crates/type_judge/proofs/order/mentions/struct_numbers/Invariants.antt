use Rattle.std.proofs.Common.{◌≡◌, take, length}
use Rattle.ir_syntax.specs.View.{items_view}
use Rattle.name_rules.specs.ModuleOf.{structs_in}
use Rattle.type_judge.specs.Order.Mentions.{AreNumbers}
use Rattle.type_judge.proofs.order.mentions.struct_numbers.Given as goal

abbrev pub invariant-items : goal.invariant-items
invariant-items l = record {
  numbers : AreNumbers l.numbers (structs_in (items_view (take l.item-index l.item-items)));
  count : l.count ≡ length (structs_in (items_view (take l.item-index l.item-items)));
}
