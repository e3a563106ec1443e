use Rattle.std.proofs.Common.{List, refl, ◌∙◌, subst}
use Rattle.ir_memory.proofs.Changed.{on_err as wanted}
use Rattle.run_rules.specs.State.{Due}
use Rattle.run_decode.specs.declared.flat.action.Action.{Action}
use Rattle.run_decode.specs.declared.flat.action.Action.TheVariants as flat
use Rattle.run_decode.specs.Flat.Flat.{action_of}
use Rattle.run_acts.specs.declared.next.Next.{Next}
use Rattle.run_acts.specs.Said.{IsLast}
use Rattle.run_acts.proofs.OnClasses.Placed.{on_err}
use Rattle.run_acts.specs.Acting.{ActsFor, MayActIn, WantsHere}
use Rattle.run_acts.proofs.AskedCalls.{acts_for, if_ok, keeps_itself, may_act_in, none_outer, some_body, stands, wants_for, written_none}
use Rattle.run_acts.proofs.instruction.call_or_return.Goals as goal

-- ---- the instruction

pub body-decoded-requires : goal.body-decoded-requires
body-decoded-requires c = some_body c.args.program.now c.args.stack.now c.args.memory.now c.requires.may c.function.result c.function.ensures

pub action-flat-requires : goal.action-flat-requires
action-flat-requires c =
    let b = c.body-decoded in
    stands c.args.program.now c.args.stack.now c.args.memory.now c.requires.may c.function.result c.function.ensures b.result.now b.ensures.ready b.ensures.body c.block.result c.position.result c.block.ensures c.position.ensures

-- ---- a call

pub act_on_call-requires : goal.act_on_call-requires
act_on_call-requires c =
    let p = c.args.program.now in
    let s = c.args.stack.now in
    let m = c.args.memory.now in
    let b = c.body-decoded in
    let x = c.action-flat in
    let may =
    may_act_in p s m c.requires.may c.function.result c.function.ensures b.result.now b.ensures.ready b.ensures.body c.block.result c.position.result c.block.ensures c.position.ensures x.result.now x.ensures.action x.ensures.within
    x.ensures.fits
    in
    record { may = (b.result.now, subst (λ (y : Action). MayActIn p b.result.now y s m) c.in-Call.is may); none = c.requires.none }

pub returns-in-Call-clause-acts : goal.returns-in-Call-clause-acts
returns-in-Call-clause-acts c =
    let p = c.args.program.now in
    let s = c.args.stack.now in
    let m = c.args.memory.now in
    let b = c.body-decoded in
    let x = c.action-flat in
    let k = c.in-Call in
    let new = c.act_on_call.new in
    let action = flat.Call k.to k.callee k.call in
    let may =
    subst (λ (y : Action). MayActIn p b.result.now y s m) k.is
    (may_act_in p s m c.requires.may c.function.result c.function.ensures b.result.now b.ensures.ready b.ensures.body c.block.result c.position.result c.block.ensures c.position.ensures x.result.now x.ensures.action
    x.ensures.within x.ensures.fits)
    in
    if_ok c.act_on_call.result _ (λ (next : Next). (due : List Due) → IsLast due c.args.is_last → ActsFor p due next s new.stack m new.memory new.room.written.items)
    (λ next came due last. acts_for p b.result.now action s m may due next new.stack new.memory new.room.written.items (came b.result.now due may)) c.act_on_call.ensures.came

pub returns-in-Call-clause-wants : goal.returns-in-Call-clause-wants
returns-in-Call-clause-wants c =
    let p = c.args.program.now in
    let s = c.args.stack.now in
    let m = c.args.memory.now in
    let b = c.body-decoded in
    let x = c.action-flat in
    let k = c.in-Call in
    let action = flat.Call k.to k.callee k.call in
    let may =
    subst (λ (y : Action). MayActIn p b.result.now y s m) k.is
    (may_act_in p s m c.requires.may c.function.result c.function.ensures b.result.now b.ensures.ready b.ensures.body c.block.result c.position.result c.block.ensures c.position.ensures x.result.now x.ensures.action
    x.ensures.within x.ensures.fits)
    in
    wanted c.act_on_call.result (WantsHere p s) (wants_for p b.result.now action s m may refl)

-- ---- a return

pub act_on_return-requires : goal.act_on_return-requires
act_on_return-requires c =
    let p = c.args.program.now in
    let s = c.args.stack.now in
    let m = c.args.memory.now in
    let b = c.body-decoded in
    let x = c.action-flat in
    let may =
    may_act_in p s m c.requires.may c.function.result c.function.ensures b.result.now b.ensures.ready b.ensures.body c.block.result c.position.result c.block.ensures c.position.ensures x.result.now x.ensures.action x.ensures.within
    x.ensures.fits
    in
    record { may = (b.result.now, subst (λ (y : Action). MayActIn p b.result.now y s m) c.in-Return.is may) }

pub returns-in-Return-clause-acts : goal.returns-in-Return-clause-acts
returns-in-Return-clause-acts c =
    let p = c.args.program.now in
    let s = c.args.stack.now in
    let m = c.args.memory.now in
    let b = c.body-decoded in
    let x = c.action-flat in
    let k = c.in-Return in
    let new = c.act_on_return.new in
    let action = flat.Return k.value in
    let may =
    subst (λ (y : Action). MayActIn p b.result.now y s m) k.is
    (may_act_in p s m c.requires.may c.function.result c.function.ensures b.result.now b.ensures.ready b.ensures.body c.block.result c.position.result c.block.ensures c.position.ensures x.result.now x.ensures.action
    x.ensures.within x.ensures.fits)
    in
    let none = c.act_on_return.ensures.written ∙ c.requires.none in
    if_ok c.act_on_return.result _ (λ (next : Next). (due : List Due) → IsLast due c.args.is_last → ActsFor p due next s new.stack m new.memory new.room.written.items)
    (λ next came due last.
    acts_for p b.result.now action s m may due next new.stack new.memory new.room.written.items
    (written_none p (action_of b.result.now.pools p.lists action) due next s new.stack m new.memory new.room.written.items none (came b.result.now due last may))) c.act_on_return.ensures.came

pub returns-in-Return-clause-keeps : goal.returns-in-Return-clause-keeps
returns-in-Return-clause-keeps c = keeps_itself c.args.program.now

pub returns-in-Return-clause-wants : goal.returns-in-Return-clause-wants
returns-in-Return-clause-wants c =
    let p = c.args.program.now in
    let s = c.args.stack.now in
    let m = c.args.memory.now in
    let b = c.body-decoded in
    let x = c.action-flat in
    let k = c.in-Return in
    let action = flat.Return k.value in
    let may =
    subst (λ (y : Action). MayActIn p b.result.now y s m) k.is
    (may_act_in p s m c.requires.may c.function.result c.function.ensures b.result.now b.ensures.ready b.ensures.body c.block.result c.position.result c.block.ensures c.position.ensures x.result.now x.ensures.action
    x.ensures.within x.ensures.fits)
    in
    on_err c.act_on_return.result _ (WantsHere p s) (λ wants. wants_for p b.result.now action s m may (wants b.result.now may)) c.act_on_return.ensures.wants

-- ---- none else is due

pub unreachable-requires : goal.unreachable-requires
unreachable-requires c =
    let p = c.args.program.now in
    let s = c.args.stack.now in
    let m = c.args.memory.now in
    let b = c.body-decoded in
    let x = c.action-flat in
    let may =
    may_act_in p s m c.requires.may c.function.result c.function.ensures b.result.now b.ensures.ready b.ensures.body c.block.result c.position.result c.block.ensures c.position.ensures x.result.now x.ensures.action x.ensures.within
    x.ensures.fits
    in
    none_outer p b.result.now x.result.now s m may c.requires.outer c.in_default.not-Call c.in_default.not-Return
