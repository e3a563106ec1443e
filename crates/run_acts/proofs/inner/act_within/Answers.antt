use Rattle.std.proofs.Common.{◌≡◌, true, length, Option, Err, refl, ap}
use Rattle.module_arena.specs.Lists.{Lists}
use Rattle.run_acts.specs.declared.next.Next.{Next}
use Rattle.run_acts.specs.declared.next.Next.TheVariants.{Goes}
use Rattle.run_rules.specs.Wants.{wants_memory}
use Rattle.run_decode.specs.Flat.Flat.{action_of}
use Rattle.run_acts.specs.Acting.{ComesInside}
use Rattle.run_acts.proofs.AskedCalls.{never_passed, outer_matched}
use Rattle.run_acts.proofs.Coming.{accesses_want, acts_come, carried_comes, if_ok_all, on_err_all}
use Rattle.run_acts.proofs.Staying.{accesses_come, accesses_stay, acts_stay, carried_stays, comes_inside, done_stays, is_inner, none_stays, refusal_keeps}
use Rattle.run_acts.proofs.inner.act_within.Goals as goal

-- ---- one leaf

pub act_on_binary-requires-clause-may : goal.act_on_binary-requires-clause-may
act_on_binary-requires-clause-may c = (length c.args.memory.now.list, c.requires.may)

pub returns-in-Compute-clause-comes : goal.returns-in-Compute-clause-comes
returns-in-Compute-clause-comes c = λ lists.
    let s = c.args.stack.now in
    let m = c.args.memory.now in
    let new = c.act_on_binary.new.stack in
    comes_inside c.args.pools.now lists c.args.action.now (ap is_inner c.in-Compute.is) s new c.requires.may.running m m c.next_of.result
    (acts_come (action_of c.args.pools.now lists c.args.action.now) s new m c.act_on_binary.result c.next_of.result c.next_of.ensures (c.act_on_binary.ensures lists))

pub returns-in-Compute-clause-stays : goal.returns-in-Compute-clause-stays
returns-in-Compute-clause-stays c =
    let may = c.requires.may in
    acts_stay c.args.pools.now may.lists c.args.action.now (ap is_inner c.in-Compute.is) c.args.stack.now c.act_on_binary.new.stack may.running c.args.memory.now c.act_on_binary.result (c.act_on_binary.ensures may.lists)

pub act_on_comparison-requires-clause-may : goal.act_on_comparison-requires-clause-may
act_on_comparison-requires-clause-may c = (length c.args.memory.now.list, c.requires.may)

pub returns-in-Compare-clause-comes : goal.returns-in-Compare-clause-comes
returns-in-Compare-clause-comes c = λ lists.
    let s = c.args.stack.now in
    let m = c.args.memory.now in
    let new = c.act_on_comparison.new.stack in
    comes_inside c.args.pools.now lists c.args.action.now (ap is_inner c.in-Compare.is) s new c.requires.may.running m m Goes
    (carried_comes (action_of c.args.pools.now lists c.args.action.now) s new m (c.act_on_comparison.ensures lists))

pub returns-in-Compare-clause-stays : goal.returns-in-Compare-clause-stays
returns-in-Compare-clause-stays c =
    let may = c.requires.may in
    carried_stays c.args.pools.now may.lists c.args.action.now (ap is_inner c.in-Compare.is) c.args.stack.now c.act_on_comparison.new.stack may.running c.args.memory.now (c.act_on_comparison.ensures may.lists)

pub act_on_cast-requires-clause-may : goal.act_on_cast-requires-clause-may
act_on_cast-requires-clause-may c = (length c.args.memory.now.list, c.requires.may)

pub returns-in-Convert-clause-comes : goal.returns-in-Convert-clause-comes
returns-in-Convert-clause-comes c = λ lists.
    let s = c.args.stack.now in
    let m = c.args.memory.now in
    let new = c.act_on_cast.new.stack in
    comes_inside c.args.pools.now lists c.args.action.now (ap is_inner c.in-Convert.is) s new c.requires.may.running m m Goes
    (carried_comes (action_of c.args.pools.now lists c.args.action.now) s new m (c.act_on_cast.ensures lists))

pub returns-in-Convert-clause-stays : goal.returns-in-Convert-clause-stays
returns-in-Convert-clause-stays c =
    let may = c.requires.may in
    carried_stays c.args.pools.now may.lists c.args.action.now (ap is_inner c.in-Convert.is) c.args.stack.now c.act_on_cast.new.stack may.running c.args.memory.now (c.act_on_cast.ensures may.lists)

-- ---- ways

pub act_on_jump-requires-clause-may : goal.act_on_jump-requires-clause-may
act_on_jump-requires-clause-may c = (length c.args.memory.now.list, c.requires.may)

pub returns-in-Jump-clause-comes : goal.returns-in-Jump-clause-comes
returns-in-Jump-clause-comes c = λ lists.
    let s = c.args.stack.now in
    let m = c.args.memory.now in
    let new = c.act_on_jump.new.stack in
    comes_inside c.args.pools.now lists c.args.action.now (ap is_inner c.in-Jump.is) s new c.requires.may.running m m Goes
    (carried_comes (action_of c.args.pools.now lists c.args.action.now) s new m (c.act_on_jump.ensures lists))

pub returns-in-Jump-clause-stays : goal.returns-in-Jump-clause-stays
returns-in-Jump-clause-stays c =
    let may = c.requires.may in
    carried_stays c.args.pools.now may.lists c.args.action.now (ap is_inner c.in-Jump.is) c.args.stack.now c.act_on_jump.new.stack may.running c.args.memory.now (c.act_on_jump.ensures may.lists)

pub act_on_branch-requires-clause-may : goal.act_on_branch-requires-clause-may
act_on_branch-requires-clause-may c = (length c.args.memory.now.list, c.requires.may)

pub returns-in-Branch-clause-comes : goal.returns-in-Branch-clause-comes
returns-in-Branch-clause-comes c = λ lists.
    let s = c.args.stack.now in
    let m = c.args.memory.now in
    let new = c.act_on_branch.new.stack in
    comes_inside c.args.pools.now lists c.args.action.now (ap is_inner c.in-Branch.is) s new c.requires.may.running m m c.next_of-in-Branch.result
    (acts_come (action_of c.args.pools.now lists c.args.action.now) s new m c.act_on_branch.result c.next_of-in-Branch.result c.next_of-in-Branch.ensures (c.act_on_branch.ensures lists))

pub returns-in-Branch-clause-stays : goal.returns-in-Branch-clause-stays
returns-in-Branch-clause-stays c =
    let may = c.requires.may in
    acts_stay c.args.pools.now may.lists c.args.action.now (ap is_inner c.in-Branch.is) c.args.stack.now c.act_on_branch.new.stack may.running c.args.memory.now c.act_on_branch.result (c.act_on_branch.ensures may.lists)

pub act_on_switch-requires-clause-may : goal.act_on_switch-requires-clause-may
act_on_switch-requires-clause-may c = (length c.args.memory.now.list, c.requires.may)

pub returns-in-Switch-clause-comes : goal.returns-in-Switch-clause-comes
returns-in-Switch-clause-comes c = λ lists.
    let s = c.args.stack.now in
    let m = c.args.memory.now in
    let new = c.act_on_switch.new.stack in
    comes_inside c.args.pools.now lists c.args.action.now (ap is_inner c.in-Switch.is) s new c.requires.may.running m m c.next_of-in-Switch.result
    (acts_come (action_of c.args.pools.now lists c.args.action.now) s new m c.act_on_switch.result c.next_of-in-Switch.result c.next_of-in-Switch.ensures (c.act_on_switch.ensures lists))

pub returns-in-Switch-clause-stays : goal.returns-in-Switch-clause-stays
returns-in-Switch-clause-stays c =
    let may = c.requires.may in
    acts_stay c.args.pools.now may.lists c.args.action.now (ap is_inner c.in-Switch.is) c.args.stack.now c.act_on_switch.new.stack may.running c.args.memory.now c.act_on_switch.result (c.act_on_switch.ensures may.lists)

pub returns-in-Unreachable-clause-comes : goal.returns-in-Unreachable-clause-comes
returns-in-Unreachable-clause-comes c = λ lists.
    let s = c.args.stack.now in
    let m = c.args.memory.now in
    comes_inside c.args.pools.now lists c.args.action.now (ap is_inner c.in-Unreachable.is) s s c.requires.may.running m m c.fails.result
    (acts_come (action_of c.args.pools.now lists c.args.action.now) s s m (Err c.act_on_unreachable.result) c.fails.result c.fails.ensures (c.act_on_unreachable.ensures lists))

pub returns-in-Unreachable-clause-stays : goal.returns-in-Unreachable-clause-stays
returns-in-Unreachable-clause-stays c =
    let may = c.requires.may in
    acts_stay c.args.pools.now may.lists c.args.action.now (ap is_inner c.in-Unreachable.is) c.args.stack.now c.args.stack.now may.running c.args.memory.now (Err c.act_on_unreachable.result) (c.act_on_unreachable.ensures may.lists)

-- ---- memory

pub returns-in-Load-clause-comes : goal.returns-in-Load-clause-comes
returns-in-Load-clause-comes c =
    let s = c.args.stack.now in
    let m = c.args.memory.now in
    let new = c.act_on_load.new in
    if_ok_all c.next_of_access.result (λ (lists : Lists) (x : Option Next). ComesInside (action_of c.args.pools.now lists c.args.action.now) x s new.stack m m)
    (λ lists. accesses_come c.args.pools.now lists c.args.action.now (ap is_inner c.in-Load.is) s new.stack c.requires.may.running m m c.act_on_load.result c.next_of_access.result c.next_of_access.ensures (c.act_on_load.ensures.accesses lists))

pub returns-in-Load-clause-stays : goal.returns-in-Load-clause-stays
returns-in-Load-clause-stays c =
    let may = c.requires.may in
    let m = c.args.memory.now in
    let new = c.act_on_load.new in
    accesses_stay c.args.pools.now may.lists c.args.action.now (ap is_inner c.in-Load.is) c.args.stack.now new.stack may.running m m c.act_on_load.result c.next_of_access.result c.next_of_access.ensures (c.act_on_load.ensures.accesses may.lists) (refusal_keeps c.act_on_load.result c.args.stack.now new.stack c.act_on_load.ensures.err)

pub returns-in-Load-clause-wants : goal.returns-in-Load-clause-wants
returns-in-Load-clause-wants c =
    let s = c.args.stack.now in
    let m = c.args.memory.now in
    let new = c.act_on_load.new in
    on_err_all c.next_of_access.result (λ (lists : Lists). wants_memory (action_of c.args.pools.now lists c.args.action.now) ≡ true)
    (λ lists. accesses_want (action_of c.args.pools.now lists c.args.action.now) s new.stack m m c.act_on_load.result c.next_of_access.result c.next_of_access.ensures (c.act_on_load.ensures.accesses lists))

pub returns-in-Store-clause-comes : goal.returns-in-Store-clause-comes
returns-in-Store-clause-comes c =
    let s = c.args.stack.now in
    let m = c.args.memory.now in
    let new = c.act_on_store.new in
    if_ok_all c.next_of_access-in-Store.result (λ (lists : Lists) (x : Option Next). ComesInside (action_of c.args.pools.now lists c.args.action.now) x s new.stack m new.memory)
    (λ lists. accesses_come c.args.pools.now lists c.args.action.now (ap is_inner c.in-Store.is) s new.stack c.requires.may.running m new.memory c.act_on_store.result c.next_of_access-in-Store.result c.next_of_access-in-Store.ensures (c.act_on_store.ensures.accesses lists))

pub returns-in-Store-clause-stays : goal.returns-in-Store-clause-stays
returns-in-Store-clause-stays c =
    let may = c.requires.may in
    let m = c.args.memory.now in
    let new = c.act_on_store.new in
    accesses_stay c.args.pools.now may.lists c.args.action.now (ap is_inner c.in-Store.is) c.args.stack.now new.stack may.running m new.memory c.act_on_store.result c.next_of_access-in-Store.result c.next_of_access-in-Store.ensures (c.act_on_store.ensures.accesses may.lists) (refusal_keeps c.act_on_store.result c.args.stack.now new.stack c.act_on_store.ensures.err)

pub returns-in-Store-clause-wants : goal.returns-in-Store-clause-wants
returns-in-Store-clause-wants c =
    let s = c.args.stack.now in
    let m = c.args.memory.now in
    let new = c.act_on_store.new in
    on_err_all c.next_of_access-in-Store.result (λ (lists : Lists). wants_memory (action_of c.args.pools.now lists c.args.action.now) ≡ true)
    (λ lists. accesses_want (action_of c.args.pools.now lists c.args.action.now) s new.stack m new.memory c.act_on_store.result c.next_of_access-in-Store.result c.next_of_access-in-Store.ensures (c.act_on_store.ensures.accesses lists))

pub returns-in-Allocate-clause-comes : goal.returns-in-Allocate-clause-comes
returns-in-Allocate-clause-comes c =
    let s = c.args.stack.now in
    let m = c.args.memory.now in
    let new = c.act_on_alloca.new in
    if_ok_all c.next_of_access-in-Allocate.result (λ (lists : Lists) (x : Option Next). ComesInside (action_of c.args.pools.now lists c.args.action.now) x s new.stack m new.memory)
    (λ lists. accesses_come c.args.pools.now lists c.args.action.now (ap is_inner c.in-Allocate.is) s new.stack c.requires.may.running m new.memory c.act_on_alloca.result c.next_of_access-in-Allocate.result c.next_of_access-in-Allocate.ensures (c.act_on_alloca.ensures.accesses lists))

pub returns-in-Allocate-clause-stays : goal.returns-in-Allocate-clause-stays
returns-in-Allocate-clause-stays c =
    let may = c.requires.may in
    let m = c.args.memory.now in
    let new = c.act_on_alloca.new in
    accesses_stay c.args.pools.now may.lists c.args.action.now (ap is_inner c.in-Allocate.is) c.args.stack.now new.stack may.running m new.memory c.act_on_alloca.result c.next_of_access-in-Allocate.result c.next_of_access-in-Allocate.ensures (c.act_on_alloca.ensures.accesses may.lists) c.act_on_alloca.ensures.frames

pub returns-in-Allocate-clause-wants : goal.returns-in-Allocate-clause-wants
returns-in-Allocate-clause-wants c =
    let s = c.args.stack.now in
    let m = c.args.memory.now in
    let new = c.act_on_alloca.new in
    on_err_all c.next_of_access-in-Allocate.result (λ (lists : Lists). wants_memory (action_of c.args.pools.now lists c.args.action.now) ≡ true)
    (λ lists. accesses_want (action_of c.args.pools.now lists c.args.action.now) s new.stack m new.memory c.act_on_alloca.result c.next_of_access-in-Allocate.result c.next_of_access-in-Allocate.ensures (c.act_on_alloca.ensures.accesses lists))

pub returns-in-Displace-clause-comes : goal.returns-in-Displace-clause-comes
returns-in-Displace-clause-comes c = λ lists.
    let m = c.args.memory.now in
    comes_inside c.args.pools.now lists c.args.action.now (ap is_inner c.in-Displace.is) c.args.stack.now c.act_on_address.new.stack c.requires.may.running m m Goes
    (λ table due. (c.act_on_address.ensures lists).goes table due)

pub returns-in-Displace-clause-stays : goal.returns-in-Displace-clause-stays
returns-in-Displace-clause-stays c =
    let may = c.requires.may in
    let m = c.args.memory.now in
    done_stays c.args.pools.now may.lists c.args.action.now (ap is_inner c.in-Displace.is) c.args.stack.now c.act_on_address.new.stack may.running m m (c.act_on_address.ensures may.lists)

-- ---- many leaves

pub act_on_many-requires-clause-may : goal.act_on_many-requires-clause-may
act_on_many-requires-clause-may c = (length c.args.memory.now.list, c.requires.may)

pub returns-in_ok-act_on_many-in-Select-clause-comes : goal.returns-in_ok-act_on_many-in-Select-clause-comes
returns-in_ok-act_on_many-in-Select-clause-comes c = c.in_ok-act_on_many-in-Select.ensures.comes c.args.memory.now

-- ---- calls and returns

pub returns-in-Call-clause-comes : goal.returns-in-Call-clause-comes
returns-in-Call-clause-comes c = λ lists. (refl, refl, outer_matched c.args.pools.now lists c.args.action.now c.in-Call.is)

pub returns-in-Call-clause-stays : goal.returns-in-Call-clause-stays
returns-in-Call-clause-stays c = none_stays c.args.stack.now

-- ---- phis

pub unreachable-requires : goal.unreachable-requires
unreachable-requires c = never_passed (length c.args.memory.now.list) c.args.pools.now c.args.action.now c.args.stack.now c.requires.may c.in-Passed.is
