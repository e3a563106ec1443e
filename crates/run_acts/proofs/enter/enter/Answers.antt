use Rattle.run_acts.proofs.Entering.{begun_is, frame_begins, limit_passed, no_frame_begins, same_is}
use Rattle.run_acts.proofs.Readiness.{keeps_none, ready_entered, ready_stays}
use Rattle.run_acts.proofs.enter.enter.Goals as goal

pub returns-then-not-has_room-clause-entered : goal.returns-then-not-has_room-clause-entered
returns-then-not-has_room-clause-entered c =
    let a = c.args in
    limit_passed a.id a.leaves a.to a.arguments.now a.stack.now c.has_room.result c.requires.arguments c.has_room.ensures c.if-not-has_room.true

pub returns-then-not-has_room-clause-ready : goal.returns-then-not-has_room-clause-ready
returns-then-not-has_room-clause-ready c = λ h. h

pub returns-then-not-has_room-clause-keeps : goal.returns-then-not-has_room-clause-keeps
returns-then-not-has_room-clause-keeps c = keeps_none c.args.program.now

pub returns-then-entered-clause-entered : goal.returns-then-entered-clause-entered
returns-then-entered-clause-entered c =
    let a = c.args in
    frame_begins a.id a.leaves a.to a.arguments.now a.stack.now c.enter.new.self c.in_ok-widest.widest c.number-function.result c.in_ok-entered.entered c.number-function.ensures
    c.in_ok-entered.ensures.entered c.in_ok-entered.ensures.test c.if-entered.true

pub returns-then-entered-clause-ready : goal.returns-then-entered-clause-ready
returns-then-entered-clause-ready c =
    let a = c.args in
    let body = c.in_ok-widest.ensures.ready in
    ready_entered a.program.now c.prepare.new.self a.stack.now c.enter.new.self a.id a.leaves c.in_ok-widest.widest a.arguments.now a.to c.in_ok-widest.ensures.keeps
    (begun_is a.id a.leaves a.to a.arguments.now a.stack.now c.enter.new.self c.in_ok-widest.widest c.number-function.result c.in_ok-entered.entered c.number-function.ensures
    c.in_ok-entered.ensures.entered c.in_ok-entered.ensures.test c.if-entered.true)
    body.0 body.1.0 body.1.1

pub returns-else-entered-clause-entered : goal.returns-else-entered-clause-entered
returns-else-entered-clause-entered c =
    let a = c.args in
    no_frame_begins a.id a.leaves a.to a.arguments.now a.stack.now c.enter.new.self c.in_ok-widest.widest c.number-function.result c.in_ok-entered.entered c.number-function.ensures
    c.in_ok-entered.ensures.entered c.in_ok-entered.ensures.test c.if-entered.false

pub returns-else-entered-clause-ready : goal.returns-else-entered-clause-ready
returns-else-entered-clause-ready c =
    let a = c.args in
    ready_stays a.program.now c.prepare.new.self a.stack.now c.enter.new.self c.in_ok-widest.ensures.keeps
    (same_is a.id a.leaves a.to a.arguments.now a.stack.now c.enter.new.self c.in_ok-widest.widest c.number-function.result c.in_ok-entered.entered c.number-function.ensures
    c.in_ok-entered.ensures.entered c.in_ok-entered.ensures.test c.if-entered.false)
