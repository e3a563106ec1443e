use Rattle.std.proofs.Common.{length, subst}
use Rattle.run_rules.specs.Action as actions
use Rattle.run_actions.specs.Accesses.Done.{Accesses}
use Rattle.run_decode.specs.declared.flat.action.Action.{Action}
use Rattle.run_decode.specs.Flat.Flat.{IsWithin}
use Rattle.run_acts.specs.Classes.May.{MayAct}
use Rattle.run_acts.proofs.OnClasses.Seen.{allocatable, allocated_so, frames_stay_at_end}
use Rattle.run_acts.proofs.classes.memory.act_on_alloca.Goals as goal

pub origin-number-requires : goal.origin-number-requires
origin-number-requires c = subst (IsWithin c.args.pools.now) c.requires.is c.requires.may.within

pub allocate-requires : goal.allocate-requires
allocate-requires c =
    let a = c.args in
    let p = a.pools.now in
    let s = a.stack.now in
    let blocks = a.memory.now.list in
    let may = subst (λ (x : Action). MayAct (length blocks) p x s) c.requires.is c.requires.may in
    let k = allocatable blocks p s a.to a.align a.size a.count c.origin-number.result c.origin-number.ensures may in
    record { on = k.on; place = k.place; there = k.there; align = k.align_is; next = c.requires.next }

pub returns-clause-accesses : goal.returns-clause-accesses
returns-clause-accesses c = λ lists.
    let a = c.args in
    subst (λ (x : actions.Action). Accesses x c.allocate.result a.stack.now c.allocate.new.stack a.memory.now c.allocate.new.memory)
    (allocated_so a.pools.now lists a._action.now a.to a.align a.size a.count c.origin-number.result c.requires.is c.origin-number.ensures) c.allocate.ensures.allocates

pub returns-clause-frames : goal.returns-clause-frames
returns-clause-frames c = frames_stay_at_end c.allocate.result c.args.stack.now c.allocate.new.stack c.args.memory.now c.allocate.new.memory c.allocate.ensures.stays
