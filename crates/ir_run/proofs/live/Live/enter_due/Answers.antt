use Rattle.std.proofs.Common.{refl}
use Rattle.ir_run.proofs.EnteringDue.{all_entered, none_entered, some_frames}
use Rattle.ir_run.proofs.live.Live.enter_due.Goals as goal

pub returns-clause-entered : goal.returns-clause-entered
returns-clause-entered c =
    all_entered c.args.self.now c.args.self.now (none_entered c.requires.0 c.args.self.now c.requires.1) (some_frames c.args.self.now.stack.frames _ c.if-is_idle.ensures refl)

pub returns-clause-live : goal.returns-clause-live
returns-clause-live c = λ steps h. (h, some_frames c.args.self.now.stack.frames _ c.if-is_idle.ensures refl)
