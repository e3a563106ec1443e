use Rattle.std.proofs.Common.{IfOk, refl, sym, subst}
use Rattle.run_decode.specs.declared.flat.leaf.LeafAt.TheVariants as leaf
use Rattle.run_decode.specs.Flat.Grown.{IsLeaf}
use Rattle.run_actions.specs.declared.stack.origin.Origin.{Origin}
use Rattle.run_actions.specs.Stack.Origins.{origin_of}
use Rattle.run_decode.proofs.operands.pooled.put_leaf.Goals as goal

pub returns-in-Held-clause-leaf : goal.returns-in-Held-clause-leaf
returns-in-Held-clause-leaf c = subst (λ (o : Origin). IsLeaf c.args.pools.now (leaf.Held c.in-Held.place) (origin_of o)) (sym c.in-Held.is) (record { within = tt; means = refl })

pub returns-in-Known-clause-leaf : goal.returns-in-Known-clause-leaf
returns-in-Known-clause-leaf c = subst (λ (o : Origin). IfOk c.put_known.result (λ at. IsLeaf c.put_known.new.pools at (origin_of o))) (sym c.in-Known.is) c.put_known.ensures.leaf
