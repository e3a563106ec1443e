use Rattle.ir_memory.specs.Memory.{no_blocks}
use Rattle.run_decode.specs.Flat.Flat.{action_of}
use Rattle.run_acts.specs.declared.next.Next.TheVariants.{Goes}
use Rattle.run_acts.proofs.Coming.{carried_comes}
use Rattle.run_acts.proofs.Staying.{carried_stays, comes_inside, value_is_inner}
use Rattle.run_acts.proofs.inner.act_on_many.Goals as goal

pub returns-clause-comes : goal.returns-clause-comes
returns-clause-comes c = λ m lists.
    let s = c.args.stack.now in
    let new = c.act_on_values.new.stack in
    let done = c.in_ok-act_on_values.ensures.ok lists in
    comes_inside c.args.pools.now lists c.args.action.now (value_is_inner c.args.action.now c.requires.group) s new c.requires.may.1.running m m Goes
    (carried_comes (action_of c.args.pools.now lists c.args.action.now) s new m done)

pub returns-clause-stays : goal.returns-clause-stays
returns-clause-stays c =
    let may = c.requires.may.1 in
    carried_stays c.args.pools.now may.lists c.args.action.now (value_is_inner c.args.action.now c.requires.group) c.args.stack.now c.act_on_values.new.stack may.running no_blocks (c.in_ok-act_on_values.ensures.ok may.lists)
