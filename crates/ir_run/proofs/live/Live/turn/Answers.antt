use Rattle.std.proofs.Common.{subst}
use Rattle.ir_base.proofs.Pieces.{OnErr-anyway}
use Rattle.ir_run.specs.Living.{Enters, StaysEntered}
use Rattle.ir_run.proofs.EnteringDue.{comes_from, wants_before}
use Rattle.ir_run.proofs.live.Live.turn.Goals as goal

pub act-requires-clause-frames : goal.act-requires-clause-frames
act-requires-clause-frames c = (subst (λ s. StaysEntered c.requires.0 s c.enter_due.new.self) c.in_default.is (c.in_ok-stop.ensures.live c.requires.0 c.requires.1)).1

pub act-requires-clause-live : goal.act-requires-clause-live
act-requires-clause-live c = (c.requires.0, (subst (λ s. StaysEntered c.requires.0 s c.enter_due.new.self) c.in_default.is (c.in_ok-stop.ensures.live c.requires.0 c.requires.1)).0, c.requires.2)

pub returns-in_err-next-clause-wants : goal.returns-in_err-next-clause-wants
returns-in_err-next-clause-wants c =
    OnErr-anyway c.from_residual-in_err-next.result
    (wants_before c.args.self.now c.enter_due.new.self (subst (λ s. Enters s c.args.self.now c.enter_due.new.self) c.in_default.is c.in_ok-stop.ensures.entered) c.in_err-next.ensures.wants)

pub returns-clause-turned : goal.returns-clause-turned
returns-clause-turned c =
    comes_from c.in_ok-next.next c.args.self.now c.enter_due.new.self c.act.new.self (subst (λ s. Enters s c.args.self.now c.enter_due.new.self) c.in_default.is c.in_ok-stop.ensures.entered)
    c.in_ok-next.ensures.acted

pub returns-clause-live : goal.returns-clause-live
returns-clause-live c = λ steps h.
    c.in_ok-next.ensures.live steps (subst (λ s. StaysEntered steps s c.enter_due.new.self) c.in_default.is (c.in_ok-stop.ensures.live steps h)).0
