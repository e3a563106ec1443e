use Rattle.std.specs.Vec.Iter.{into_iter_items}
use Rattle.bitcode_read.proofs.OnHolding.Filling.{IsFilling}
use Rattle.bitcode_read.proofs.holding.bodies.set_bodies.Given as goal

abbrev pub invariant-functions : goal.invariant-functions
invariant-functions l = IsFilling l.initial.arena l.defined l.fn.bodies.items l.number l.arena (into_iter_items l.rest)
