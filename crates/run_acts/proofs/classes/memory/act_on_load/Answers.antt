use Rattle.std.proofs.Common.{length, subst}
use Rattle.run_rules.specs.Action as actions
use Rattle.run_actions.specs.Accesses.Done.{Accesses}
use Rattle.run_decode.specs.declared.flat.action.Action.{Action}
use Rattle.run_decode.specs.Flat.Flat.{IsWithin}
use Rattle.run_acts.specs.Classes.May.{MayAct}
use Rattle.run_acts.proofs.OnClasses.Seen.{loadable, loaded_so}
use Rattle.run_acts.proofs.classes.memory.act_on_load.Goals as goal

pub origin-place-requires : goal.origin-place-requires
origin-place-requires c = (subst (IsWithin c.args.pools.now) c.requires.is c.requires.may.within).0

pub in_span-kinds-requires : goal.in_span-kinds-requires
in_span-kinds-requires c = (subst (IsWithin c.args.pools.now) c.requires.is c.requires.may.within).1

pub load-requires : goal.load-requires
load-requires c =
    let a = c.args in
    let p = a.pools.now in
    let s = a.stack.now in
    let blocks = a.memory.now.list in
    let may = subst (λ (x : Action). MayAct (length blocks) p x s) c.requires.is c.requires.may in
    let k = loadable blocks p s a.to a.align a.address a.slots c.origin-place.result c.in_span-kinds.result.now c.origin-place.ensures c.in_span-kinds.ensures may in
    record { on = k.access.on; there = k.access.there; address = k.access.address; align = k.align_is; leaves = k.leaves; places = k.places }

pub returns-clause-accesses : goal.returns-clause-accesses
returns-clause-accesses c = λ lists.
    let a = c.args in
    let m = a.memory.now in
    subst (λ (x : actions.Action). Accesses x c.load.result a.stack.now c.load.new.stack m m)
    (loaded_so a.pools.now lists a._action.now a.to a.align a.address a.slots c.origin-place.result c.in_span-kinds.result.now c.requires.is c.origin-place.ensures c.in_span-kinds.ensures) c.load.ensures.loads
