use Rattle.run_decode.proofs.OnFlat.Growth.{adds_then}
use Rattle.run_decode.proofs.Meant.{select_meant}
use Rattle.run_decode.proofs.operations.put_select.Goals as goal

pub returns-clause-grows : goal.returns-clause-grows
returns-clause-grows c = adds_then c.args.pools.now c.put_scalar.new.pools c.put_arms.new.pools c.in_ok-condition.ensures.grows c.in_ok-arms.ensures.grows

pub returns-clause-action : goal.returns-clause-action
returns-clause-action c =
    select_meant c.args.scope.now c.put_scalar.new.pools c.put_arms.new.pools c.in_ok-arms.ensures.grows c.args.to c.to.result c.args.choice.now c.in_ok-condition.condition c.in_ok-arms.arms c.to.ensures c.in_ok-condition.ensures.leaf c.in_ok-arms.ensures.arms
