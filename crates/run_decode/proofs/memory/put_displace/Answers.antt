use Rattle.run_decode.proofs.OnFlat.Growth.{adds_then}
use Rattle.run_decode.proofs.Meant.{displace_meant}
use Rattle.run_decode.proofs.memory.put_displace.Goals as goal

pub returns-clause-grows : goal.returns-clause-grows
returns-clause-grows c = adds_then c.args.pools.now c.put_scalar.new.pools c.put_steps.new.pools c.in_ok-base.ensures.grows c.in_ok-terms.ensures.grows

pub returns-clause-action : goal.returns-clause-action
returns-clause-action c =
    displace_meant c.args.scope.now c.put_scalar.new.pools c.put_steps.new.pools c.in_ok-terms.ensures.grows c.args.operation.0 c.args.operation.1 c.to.result c.args.source c.has.result c.args.base c.args.indices.now c.in_ok-base.base
    c.in_ok-terms.terms c.in_ok-terms.sum c.to.ensures c.has.ensures c.in_ok-base.ensures.leaf c.in_ok-terms.ensures.terms
