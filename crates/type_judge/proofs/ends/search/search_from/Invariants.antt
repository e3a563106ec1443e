use Rattle.std.proofs.Common.{◌≡◌, length}
use Rattle.type_judge.specs.Order.Order.{mention_lists}
use Rattle.type_judge.specs.Ends.Reach.{AreMarks, IsSearched}
use Rattle.type_judge.proofs.ends.search.search_from.Given as goal

abbrev pub invariant-places : goal.invariant-places
invariant-places l = record {
  count : length l.search.marks.items ≡ length l.mentions;
  marks : AreMarks l.search.marks.items l.search.queue.items;
  searched : IsSearched (mention_lists l.mentions) l.start l.next l.search.queue.items;
}
