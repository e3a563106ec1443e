use Rattle.std.proofs.Common.{Some, refl, sym, ◌∙◌, subst, arith}
use Rattle.run_acts.specs.declared.next.Next.{Next}
use Rattle.run_actions.specs.Stack.UnderWay.{UnderWay}
use Rattle.run_acts.specs.Acting.{ActsInside, IsOuter}
use Rattle.run_acts.proofs.AskedCalls.{by_found, newest_body}
use Rattle.ir_run.proofs.Stretches.{may_walk_on, none_walked, waits_live, walked_more, walks_to_stop, walks_to_wait, walks_to_want}
use Rattle.ir_run.proofs.stretch.walk.Goals as goal

-- ---- the body

pub function-requires : goal.function-requires
function-requires c = c.requires.3

pub body-decoded-requires : goal.body-decoded-requires
body-decoded-requires c = newest_body c.args.program.now c.args.stack.now c.requires.3 c.requires.2.ready c.function.result c.function.ensures

-- ---- the instructions

pub walking-init : goal.walking-init
walking-init c = (omega arith, none_walked c.args.program.now c.args.stack.now c.args.memory.now c.requires.3)

pub act_inside-requires : goal.act_inside-requires
act_inside-requires c =
    let p = c.args.program.now in
    let w = c.walking.invariant.1 in
    let here = may_walk_on p c.walking.count c.args.stack.now c.args.memory.now c.walking.stack c.walking.memory w c.args.most c.requires c.walking-test.true in
    let b = c.body-decoded in
    record { may = (p, by_found p c.walking.stack c.walking.memory here c.function.result (c.function.ensures ∙ sym w.function) b.result.now b.ensures.ready b.ensures.body) }

-- one more goes on
pub walking-preserved : goal.walking-preserved
walking-preserved c =
    let p = c.args.program.now in
    let w = c.walking.invariant.1 in
    let test = c.walking-test.true in
    let here = may_walk_on p c.walking.count c.args.stack.now c.args.memory.now c.walking.stack c.walking.memory w c.args.most c.requires test in
    let b = c.body-decoded in
    let by = by_found p c.walking.stack c.walking.memory here c.function.result (c.function.ensures ∙ sym w.function) b.result.now b.ensures.ready b.ensures.body in
    let x = c.in-Ok-Some-Goes in
    let new = c.act_inside.new in (
      omega (arith, test),
      walked_more p c.walking.count c.args.stack.now c.args.memory.now c.walking.stack c.walking.memory w new.stack new.memory
          (subst (λ (next : Next). ActsInside p (Some next) c.walking.stack new.stack c.walking.memory new.memory) x.field-0-0-is (subst (λ o. ActsInside p o c.walking.stack new.stack c.walking.memory new.memory) x.field-0-is (x.ensures.acts p by)))
          x.ensures.stays,
    )

-- one more ends the run
pub returns-in-Ok-Some-Stops-clause-walks : goal.returns-in-Ok-Some-Stops-clause-walks
returns-in-Ok-Some-Stops-clause-walks c =
    let p = c.args.program.now in
    let w = c.walking.invariant.1 in
    let here = may_walk_on p c.walking.count c.args.stack.now c.args.memory.now c.walking.stack c.walking.memory w c.args.most c.requires c.walking-test.true in
    let b = c.body-decoded in
    let by = by_found p c.walking.stack c.walking.memory here c.function.result (c.function.ensures ∙ sym w.function) b.result.now b.ensures.ready b.ensures.body in
    let x = c.in-Ok-Some-Stops in
    let new = c.act_inside.new in
    walks_to_stop p c.walking.count c.args.stack.now c.args.memory.now c.walking.stack c.walking.memory w new.stack new.memory x.stop
    (subst (λ (next : Next). ActsInside p (Some next) c.walking.stack new.stack c.walking.memory new.memory) x.field-0-0-is (subst (λ o. ActsInside p o c.walking.stack new.stack c.walking.memory new.memory) x.field-0-is (x.ensures.acts p by)))

-- none asks for a byte
pub unreachable-requires : goal.unreachable-requires
unreachable-requires c =
    let p = c.args.program.now in
    let w = c.walking.invariant.1 in
    let here = may_walk_on p c.walking.count c.args.stack.now c.args.memory.now c.walking.stack c.walking.memory w c.args.most c.requires c.walking-test.true in
    let b = c.body-decoded in
    let by = by_found p c.walking.stack c.walking.memory here c.function.result (c.function.ensures ∙ sym w.function) b.result.now b.ensures.ready b.ensures.body in
    let x = c.in-Ok-Some-Gets in
    let new = c.act_inside.new in
    (subst (λ (next : Next). ActsInside p (Some next) c.walking.stack new.stack c.walking.memory new.memory) x.field-0-0-is (subst (λ o. ActsInside p o c.walking.stack new.stack c.walking.memory new.memory) x.field-0-is (x.ensures.acts p by))).1 _ refl

-- one calls or returns
pub returns-in-Ok-None-clause-further : goal.returns-in-Ok-None-clause-further
returns-in-Ok-None-clause-further c = λ less running.
    let p = c.args.program.now in
    let w = c.walking.invariant.1 in
    let here = may_walk_on p c.walking.count c.args.stack.now c.args.memory.now c.walking.stack c.walking.memory w c.args.most c.requires c.walking-test.true in
    let b = c.body-decoded in
    let by = by_found p c.walking.stack c.walking.memory here c.function.result (c.function.ensures ∙ sym w.function) b.result.now b.ensures.ready b.ensures.body in
    let x = c.in-Ok-None in
    let new = c.act_inside.new in
    let same = subst (λ o. ActsInside p o c.walking.stack new.stack c.walking.memory new.memory) x.field-0-is (x.ensures.acts p by) in
    subst (λ (u : UnderWay). IsOuter p u) (sym same.0) same.2

pub returns-in-Ok-None-clause-walks : goal.returns-in-Ok-None-clause-walks
returns-in-Ok-None-clause-walks c =
    let p = c.args.program.now in
    let w = c.walking.invariant.1 in
    let here = may_walk_on p c.walking.count c.args.stack.now c.args.memory.now c.walking.stack c.walking.memory w c.args.most c.requires c.walking-test.true in
    let b = c.body-decoded in
    let by = by_found p c.walking.stack c.walking.memory here c.function.result (c.function.ensures ∙ sym w.function) b.result.now b.ensures.ready b.ensures.body in
    let x = c.in-Ok-None in
    let new = c.act_inside.new in
    let same = subst (λ o. ActsInside p o c.walking.stack new.stack c.walking.memory new.memory) x.field-0-is (x.ensures.acts p by) in
    walks_to_wait p c.walking.count c.args.stack.now c.args.memory.now c.walking.stack c.walking.memory w new.stack new.memory same.0 same.1

pub returns-in-Ok-None-clause-live : goal.returns-in-Ok-None-clause-live
returns-in-Ok-None-clause-live c =
    let p = c.args.program.now in
    let w = c.walking.invariant.1 in
    let here = may_walk_on p c.walking.count c.args.stack.now c.args.memory.now c.walking.stack c.walking.memory w c.args.most c.requires c.walking-test.true in
    let b = c.body-decoded in
    let by = by_found p c.walking.stack c.walking.memory here c.function.result (c.function.ensures ∙ sym w.function) b.result.now b.ensures.ready b.ensures.body in
    let x = c.in-Ok-None in
    let new = c.act_inside.new in
    let same = subst (λ o. ActsInside p o c.walking.stack new.stack c.walking.memory new.memory) x.field-0-is (x.ensures.acts p by) in
    waits_live p c.walking.count c.args.stack.now c.args.memory.now c.walking.stack c.walking.memory w new.stack new.memory same.0 same.1

-- one wants memory
pub returns-in-Err-clause-walks : goal.returns-in-Err-clause-walks
returns-in-Err-clause-walks c =
    let p = c.args.program.now in
    let w = c.walking.invariant.1 in
    let here = may_walk_on p c.walking.count c.args.stack.now c.args.memory.now c.walking.stack c.walking.memory w c.args.most c.requires c.walking-test.true in
    let b = c.body-decoded in
    let by = by_found p c.walking.stack c.walking.memory here c.function.result (c.function.ensures ∙ sym w.function) b.result.now b.ensures.ready b.ensures.body in
    let x = c.in-Err in
    let new = c.act_inside.new in
    walks_to_want p c.walking.count c.args.stack.now c.args.memory.now c.walking.stack c.walking.memory w new.stack new.memory (x.ensures.wants p by)
