use Rattle.std.proofs.Common.{◌≡◌, length}
use Rattle.type_judge.specs.Ends.Reach.{AreMarks}
use Rattle.type_judge.proofs.OnEnds.Searching.{GrownTo}
use Rattle.type_judge.proofs.ends.search.visit.Given as goal

abbrev pub invariant-numbers : goal.invariant-numbers
invariant-numbers l = record {
  count : length l.search.marks.items ≡ length l.initial.search.marks.items;
  marks : AreMarks l.search.marks.items l.search.queue.items;
  grown : GrownTo l.numbers l.number-index l.initial.search.queue.items l.search.queue.items;
}
