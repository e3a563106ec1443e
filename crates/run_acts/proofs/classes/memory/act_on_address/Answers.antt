use Rattle.std.proofs.Common.{length, sym, subst}
use Rattle.run_rules.specs.Action as actions
use Rattle.run_actions.specs.Accesses.Done.{IsDone}
use Rattle.run_decode.specs.declared.flat.action.Action.{Action}
use Rattle.run_decode.specs.Flat.Flat.{IsWithin, terms_of}
use Rattle.run_acts.specs.Classes.May.{MayAct}
use Rattle.run_acts.proofs.OnClasses.Seen.{all_indexed, displaceable, displaced_so}
use Rattle.run_acts.proofs.classes.memory.act_on_address.Goals as goal

pub reach_of_terms-distance-requires : goal.reach_of_terms-distance-requires
reach_of_terms-distance-requires c =
    let a = c.args in
    let p = a.pools.now in
    let s = a.stack.now in
    let blocks = a.memory.now.list in
    let may = subst (λ (x : Action). MayAct (length blocks) p x s) c.requires.is c.requires.may in
    record { summed = may.within.1; indexed = all_indexed blocks p s a.to a.inbounds a.base a.terms a.sum may }

pub origin-place-requires : goal.origin-place-requires
origin-place-requires c = (subst (IsWithin c.args.pools.now) c.requires.is c.requires.may.within).0

pub displace-requires : goal.displace-requires
displace-requires c =
    let a = c.args in
    let p = a.pools.now in
    let s = a.stack.now in
    let blocks = a.memory.now.list in
    let place = c.origin-place in
    let may = subst (λ (x : Action). MayAct (length blocks) p x s) c.requires.is c.requires.may in
    let k = displaceable blocks p s a.to a.inbounds a.base a.terms a.sum place.result place.ensures may in
    record { on = k.access.on; place = k.to_place; there = k.access.there; base = k.access.address }

pub returns : goal.returns
returns c = λ lists.
    let a = c.args in
    let p = a.pools.now in
    let m = a.memory.now in
    let place = c.origin-place in
    subst (λ (x : actions.Action). IsDone x a.stack.now c.displace.new.stack m m) (displaced_so p lists a._action.now a.to a.inbounds a.base a.terms a.sum place.result c.requires.is place.ensures)
    (c.displace.ensures (terms_of p a.terms) (sym c.reach_of_terms-distance.ensures))
