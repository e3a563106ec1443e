use Rattle.bit_tree.proofs.OnStarts.Rising.{span_is}
use Rattle.bit_tree.proofs.starts.search.span.Goals as goal

pub returns-clause-order : goal.returns-clause-order
returns-clause-order c =
    (span_is c.args.rows.now c.args.id c.count_below.result c.count_through.result c.count_below.ensures.bound c.count_through.ensures.bound c.count_below.ensures.point c.count_through.ensures.point).0

pub returns-clause-starts : goal.returns-clause-starts
returns-clause-starts c =
    (span_is c.args.rows.now c.args.id c.count_below.result c.count_through.result c.count_below.ensures.bound c.count_through.ensures.bound c.count_below.ensures.point c.count_through.ensures.point).1
