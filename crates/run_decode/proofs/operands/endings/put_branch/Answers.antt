use Rattle.run_decode.proofs.OnFlat.Growth.{adds_then}
use Rattle.run_decode.proofs.OnOperands.Ended.{branch_meant}
use Rattle.run_decode.proofs.operands.endings.put_branch.Goals as goal

pub returns-clause-grows : goal.returns-clause-grows
returns-clause-grows c =
    let p = c.put_scalar.new.pools in
    let q = c.put_edge.new.pools in
    let r = c.put_edge-2.new.pools in
    adds_then c.args.pools.now p r c.in_ok-condition.ensures.grows (adds_then p q r c.in_ok-then_edge.ensures.grows c.in_ok-else_edge.ensures.grows)

pub returns-clause-action : goal.returns-clause-action
returns-clause-action c =
    branch_meant c.args.scope.now c.args.from c.put_scalar.new.pools c.put_edge.new.pools c.put_edge-2.new.pools c.in_ok-then_edge.ensures.grows c.in_ok-else_edge.ensures.grows c.args.condition c.args.targets.0 c.args.targets.1
    c.in_ok-then_edge.then_edge c.in_ok-else_edge.else_edge c.in_ok-condition.condition c.in_ok-condition.ensures.leaf c.in_ok-then_edge.ensures.edge c.in_ok-else_edge.ensures.edge
