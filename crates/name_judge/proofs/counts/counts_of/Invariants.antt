use Rattle.std.proofs.Common.{take}
use Rattle.ir_syntax.specs.View.{items_view}
use Rattle.name_judge.specs.Counting.{AreCounts}
use Rattle.name_judge.proofs.counts.counts_of.Given as goal

abbrev pub invariant-items : goal.invariant-items
invariant-items l = AreCounts l.counts (items_view (take l.item-index l.item-items))
