use Rattle.run_decode.proofs.OnOperands.Stands.{leaves_put}
use Rattle.run_decode.proofs.operands.pooled.put_leaves.Goals as goal

pub returns-clause-leaves : goal.returns-clause-leaves
returns-clause-leaves c = leaves_put c.append.result c.args.pools.now.origins _ c.args.leaves.now c.append.ensures.span c.append.ensures.items
