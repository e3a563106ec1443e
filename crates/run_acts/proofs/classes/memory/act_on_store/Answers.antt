use Rattle.std.proofs.Common.{length, subst}
use Rattle.run_rules.specs.Action as actions
use Rattle.run_actions.specs.Accesses.Done.{Accesses}
use Rattle.run_decode.specs.declared.flat.action.Action.{Action}
use Rattle.run_decode.specs.Flat.Flat.{IsWithin}
use Rattle.run_acts.specs.Classes.May.{MayAct}
use Rattle.run_acts.proofs.OnClasses.Seen.{stored_so, stored_to}
use Rattle.run_acts.proofs.classes.memory.act_on_store.Goals as goal

pub origin-place-requires : goal.origin-place-requires
origin-place-requires c = (subst (IsWithin c.args.pools.now) c.requires.is c.requires.may.within).0

pub in_span-kinds-requires : goal.in_span-kinds-requires
in_span-kinds-requires c = (subst (IsWithin c.args.pools.now) c.requires.is c.requires.may.within).1

pub in_span-leaves-requires : goal.in_span-leaves-requires
in_span-leaves-requires c = (subst (IsWithin c.args.pools.now) c.requires.is c.requires.may.within).2

pub store_pairs-requires : goal.store_pairs-requires
store_pairs-requires c =
    let a = c.args in
    let p = a.pools.now in
    let s = a.stack.now in
    let blocks = a.memory.now.list in
    let place = c.origin-place in
    let kinds = c.in_span-kinds in
    let leaves = c.in_span-leaves in
    let may = subst (λ (x : Action). MayAct (length blocks) p x s) c.requires.is c.requires.may in
    let k = stored_to blocks p s a.align a.address a.slots a.value place.result kinds.result.now leaves.result.now place.ensures kinds.ensures leaves.ensures may in
    record { on = k.access.on; there = k.access.there; address = k.access.address; align = k.align_is; pairs = k.pairs }

pub returns-clause-accesses : goal.returns-clause-accesses
returns-clause-accesses c = λ lists.
    let a = c.args in
    let place = c.origin-place in
    let kinds = c.in_span-kinds in
    let leaves = c.in_span-leaves in
    subst (λ (x : actions.Action). Accesses x c.store_pairs.result a.stack.now c.store_pairs.new.stack a.memory.now c.store_pairs.new.memory)
    (stored_so a.pools.now lists a._action.now a.align a.address a.slots a.value place.result kinds.result.now leaves.result.now c.requires.is place.ensures kinds.ensures leaves.ensures) c.store_pairs.ensures.stores
