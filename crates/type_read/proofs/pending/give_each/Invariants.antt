use Rattle.std.proofs.Common.{length}
use Rattle.std.specs.Vec.Iter.{into_iter_items}
use Rattle.type_read.proofs.Giving.{IsGiving}
use Rattle.type_read.proofs.pending.give_each.Given as goal

abbrev pub invariant-bodies : goal.invariant-bodies
invariant-bodies l = IsGiving l.initial.arena (record { first = l.first; at = l.at; bodies = l.fn.given }) l.arena l.number l.index (into_iter_items l.rest)

abbrev pub decreases-bodies : goal.decreases-bodies
decreases-bodies l = length (into_iter_items l.rest)
