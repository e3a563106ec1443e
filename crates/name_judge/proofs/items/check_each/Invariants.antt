use Rattle.std.proofs.Common.{take}
use Rattle.std.specs.Prelude.{[]}
use Rattle.ir_syntax.specs.View.{items_view}
use Rattle.name_rules.specs.Breaks.{demands_behind}
use Rattle.type_judge.specs.Gathered.{known_of}
use Rattle.type_judge.proofs.Parts.{Leads}
use Rattle.name_judge.specs.Seen.{AreKept, IsSeen}
use Rattle.name_judge.proofs.InOrder.{left_from}
use Rattle.name_judge.proofs.items.check_each.Given as goal

abbrev pub invariant-items : goal.invariant-items
invariant-items l = record {
  seen : IsSeen l.seen (items_view (take l.item-index l.items));
  kept : AreKept l.distinct l.globals (items_view (take l.item-index l.items));
  leads : Leads (left_from (known_of l.known) l.items l.item-index)
      (demands_behind (known_of l.known) [] (items_view l.items));
}
