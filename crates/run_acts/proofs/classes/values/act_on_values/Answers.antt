use Rattle.std.proofs.Common.{◌≡◌, ◌<◌, true, length, map, sym, ap, ◌∙◌, subst}
use Rattle.module_arena.specs.Lists.{Lists}
use Rattle.run_rules.specs.Action as actions
use Rattle.run_rules.specs.Wants.{wants_memory}
use Rattle.run_actions.specs.Stack.Origins.{origin_of}
use Rattle.run_actions.specs.Carried.{IsCarriedOut}
use Rattle.run_actions.specs.Values.{arm_of, part_of}
use Rattle.run_decode.specs.declared.flat.action.Action.{Action}
use Rattle.run_decode.specs.Flat.Flat.{action_of, IsWithin}
use Rattle.run_acts.specs.Classes.May.{MayAct}
use Rattle.run_acts.proofs.OnClasses.Placed.{on_err, on_ok}
use Rattle.run_acts.proofs.OnClasses.Wide.{freezable, frozen_so, gatherable, gathered_so, no_other_value, selectable, selected_so, wide_wants}
use Rattle.run_acts.proofs.classes.values.act_on_values.Goals as goal

-- ---- selects

pub origin-chooses-requires : goal.origin-chooses-requires
origin-chooses-requires c = (subst (IsWithin c.args.pools.now) c.in-Select.is c.requires.may.1.within).0

pub in_span-both-requires : goal.in_span-both-requires
in_span-both-requires c = (subst (IsWithin c.args.pools.now) c.in-Select.is c.requires.may.1.within).1

pub select-requires : goal.select-requires
select-requires c =
    let a = c.in-Select in
    let p = c.args.pools.now in
    let s = c.args.stack.now in
    let may = subst (λ (x : Action). MayAct c.requires.may.0 p x s) a.is c.requires.may.1 in
    let k = selectable c.requires.may.0 p s a.to a.condition a.arms c.origin-chooses.result c.in_span-both.result.now c.origin-chooses.ensures c.in_span-both.ensures may in
    record { on = k.on; there = k.there; condition = k.chooses_one; arms = k.arms_there; places = k.places }

pub returns-in-Select-clause-ok : goal.returns-in-Select-clause-ok
returns-in-Select-clause-ok c =
    let a = c.in-Select in
    let p = c.args.pools.now in
    let s = c.args.stack.now in
    let meant = actions.Select a.to (origin_of c.origin-chooses.result) (map arm_of c.in_span-both.result.now) in
    on_ok c.select.result (IsCarriedOut meant s c.select.new.stack) ((lists : Lists) → IsCarriedOut (action_of p lists c.args.action) s c.select.new.stack)
    (λ h lists. subst (λ (x : actions.Action). IsCarriedOut x s c.select.new.stack)
    (selected_so p lists c.args.action a.to a.condition a.arms c.origin-chooses.result c.in_span-both.result.now a.is c.origin-chooses.ensures c.in_span-both.ensures) h) c.select.ensures.ok

pub returns-in-Select-clause-wants : goal.returns-in-Select-clause-wants
returns-in-Select-clause-wants c =
    let a = c.in-Select in
    let p = c.args.pools.now in
    let both = c.in_span-both.result.now in
    on_err c.select.result (1 < length both) ((lists : Lists) → wants_memory (action_of p lists c.args.action) ≡ true)
    (λ h lists. ap wants_memory (sym (selected_so p lists c.args.action a.to a.condition a.arms c.origin-chooses.result both a.is c.origin-chooses.ensures c.in_span-both.ensures)) ∙ wide_wants arm_of both h) c.select.ensures.wide

-- ---- freezes

pub in_span-leaves-requires : goal.in_span-leaves-requires
in_span-leaves-requires c = subst (IsWithin c.args.pools.now) c.in-Freeze.is c.requires.may.1.within

pub freeze-requires : goal.freeze-requires
freeze-requires c =
    let a = c.in-Freeze in
    let p = c.args.pools.now in
    let s = c.args.stack.now in
    let may = subst (λ (x : Action). MayAct c.requires.may.0 p x s) a.is c.requires.may.1 in
    let k = freezable c.requires.may.0 p s a.to a.parts c.in_span-leaves.result.now c.in_span-leaves.ensures may in
    record { on = k.on; there = k.there; places = k.places }

pub returns-in-Freeze-clause-ok : goal.returns-in-Freeze-clause-ok
returns-in-Freeze-clause-ok c =
    let a = c.in-Freeze in
    let p = c.args.pools.now in
    let s = c.args.stack.now in
    let leaves = c.in_span-leaves.result.now in
    on_ok c.freeze.result (IsCarriedOut (actions.Freeze a.to (map part_of leaves)) s c.freeze.new.stack) ((lists : Lists) → IsCarriedOut (action_of p lists c.args.action) s c.freeze.new.stack)
    (λ h lists. subst (λ (x : actions.Action). IsCarriedOut x s c.freeze.new.stack) (frozen_so p lists c.args.action a.to a.parts leaves a.is c.in_span-leaves.ensures) h) c.freeze.ensures.ok

pub returns-in-Freeze-clause-wants : goal.returns-in-Freeze-clause-wants
returns-in-Freeze-clause-wants c =
    let a = c.in-Freeze in
    let p = c.args.pools.now in
    let leaves = c.in_span-leaves.result.now in
    on_err c.freeze.result (1 < length leaves) ((lists : Lists) → wants_memory (action_of p lists c.args.action) ≡ true)
    (λ h lists. ap wants_memory (sym (frozen_so p lists c.args.action a.to a.parts leaves a.is c.in_span-leaves.ensures)) ∙ wide_wants part_of leaves h) c.freeze.ensures.wide

-- ---- parts

pub in_span-leaves-requires-in-Gather : goal.in_span-leaves-requires-in-Gather
in_span-leaves-requires-in-Gather c = subst (IsWithin c.args.pools.now) c.in-Gather.is c.requires.may.1.within

pub gather-requires : goal.gather-requires
gather-requires c =
    let a = c.in-Gather in
    let p = c.args.pools.now in
    let s = c.args.stack.now in
    let may = subst (λ (x : Action). MayAct c.requires.may.0 p x s) a.is c.requires.may.1 in
    let k = gatherable c.requires.may.0 p s a.to a.value c.in_span-leaves-in-Gather.result.now c.in_span-leaves-in-Gather.ensures may in
    record { on = k.on; there = k.there; places = k.places }

pub returns-in-Gather-clause-ok : goal.returns-in-Gather-clause-ok
returns-in-Gather-clause-ok c =
    let a = c.in-Gather in
    let p = c.args.pools.now in
    let s = c.args.stack.now in
    let leaves = c.in_span-leaves-in-Gather in
    on_ok c.gather.result (IsCarriedOut (actions.Gather a.to (map origin_of leaves.result.now)) s c.gather.new.stack) ((lists : Lists) → IsCarriedOut (action_of p lists c.args.action) s c.gather.new.stack)
    (λ h lists. subst (λ (x : actions.Action). IsCarriedOut x s c.gather.new.stack) (gathered_so p lists c.args.action a.to a.value leaves.result.now a.is leaves.ensures) h) c.gather.ensures.ok

pub returns-in-Gather-clause-wants : goal.returns-in-Gather-clause-wants
returns-in-Gather-clause-wants c =
    let a = c.in-Gather in
    let p = c.args.pools.now in
    let s = c.args.stack.now in
    let leaves = c.in_span-leaves-in-Gather in
    on_err c.gather.result (c.gather.new.stack ≡ s) ((lists : Lists) → wants_memory (action_of p lists c.args.action) ≡ true)
    (λ h lists. ap wants_memory (sym (gathered_so p lists c.args.action a.to a.value leaves.result.now a.is leaves.ensures))) c.gather.ensures.err

-- ---- no other

pub unreachable-requires : goal.unreachable-requires
unreachable-requires c = no_other_value c.args.action c.requires.group c.in_default.not-Select c.in_default.not-Freeze c.in_default.not-Gather
