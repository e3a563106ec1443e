use Rattle.run_decode.proofs.OnOperands.Stands.{grown_edge, if_edge}
use Rattle.run_decode.proofs.operands.ways.put_edge.Goals as goal

pub returns-clause-grows : goal.returns-clause-grows
returns-clause-grows c = grown_edge c.push.result c.args.pools.now c.put_way.new.pools c.push.new.self c.in_ok-way.way c.in_ok-way.ensures.grows c.push.ensures.items

pub returns-clause-edge : goal.returns-clause-edge
returns-clause-edge c =
    if_edge c.push.result _ c.put_way.new.pools.edges c.in_ok-way.way _ c.push.ensures.place c.push.ensures.items
    (record { ordered = c.in_ok-way.ensures.moves.ordered; stored = c.in_ok-way.ensures.moves.stored }) c.in_ok-way.ensures.way
