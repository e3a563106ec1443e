use Rattle.std.proofs.Common.{arith}
use Rattle.type_judge.specs.Order.Order.{mention_lists}
use Rattle.type_judge.proofs.OnEnds.Searching.{all_reached}
use Rattle.type_judge.proofs.ends.search.search_from.Goals as goal

pub returns-clause-reached : goal.returns-clause-reached
returns-clause-reached c =
    all_reached (mention_lists c.args.mentions.now) c.args.start c.places.next c.places.search.marks.items c.places.search.queue.items
    (omega (arith, c.places.invariant.count)) c.places.invariant.marks c.places.invariant.searched
