use Rattle.type_judge.specs.Gathered.{IsKnown}
use Rattle.type_judge.proofs.known.Known.of_items.Goals as goal

pub returns-clause-known : goal.returns-clause-known
unfolding IsKnown
returns-clause-known c = record { measured = c.in_ok-structs.ensures.measured; structs = c.in_ok-structs.ensures.items; globals = c.in_ok-globals.ensures }
