use Rattle.std.proofs.Common.{subst}
use Rattle.run_actions.specs.Stack.UnderWay.{IsRunning}
use Rattle.ir_run.proofs.EnteringDue.{all_entered, no_frames, nothing_due, some_frames}
use Rattle.ir_run.proofs.Lived.{entered_live}
use Rattle.ir_run.proofs.live.Live.enter_idle.Goals as goal

-- a run that is not over has something to do
pub returns-in_default-clause-live : goal.returns-in_default-clause-live
returns-in_default-clause-live c = λ steps h.
    let e = entered_live steps c.args.self.now _ h (nothing_due c.args.self.now _ c.idle.invariant c.in_default.ensures.0) c.idle.invariant.ready in
    absurd (subst IsRunning (no_frames c.idle.self-inside.stack.frames c.is_empty.result c.is_empty.ensures c.idle-test.true) e.1)

pub returns-clause-entered : goal.returns-clause-entered
returns-clause-entered c = all_entered c.args.self.now _ c.idle.invariant (some_frames c.idle.self-inside.stack.frames c.is_empty.result c.is_empty.ensures c.idle-test.false)

pub returns-clause-live : goal.returns-clause-live
returns-clause-live c = λ steps h.
    entered_live steps c.args.self.now _ h
    (all_entered c.args.self.now _ c.idle.invariant (some_frames c.idle.self-inside.stack.frames c.is_empty.result c.is_empty.ensures c.idle-test.false))
    c.idle.invariant.ready
