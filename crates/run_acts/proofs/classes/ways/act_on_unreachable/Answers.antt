use Rattle.std.proofs.Common.{sym, ap, subst}
use Rattle.run_rules.specs.Action as actions
use Rattle.run_actions.specs.Carried.{IsUndefined}
use Rattle.run_decode.specs.Flat.Flat.{action_of}
use Rattle.run_acts.proofs.classes.ways.act_on_unreachable.Goals as goal

pub returns : goal.returns
returns c = λ lists.
    subst (λ (x : actions.Action). IsUndefined x c.unreachable.result c.args.stack.now c.args.stack.now) (ap (action_of c.args.pools.now lists) (sym c.requires.is)) c.unreachable.ensures
