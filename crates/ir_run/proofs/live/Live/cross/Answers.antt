use Rattle.std.proofs.Common.{refl, subst, sym}
use Rattle.ir_run.specs.Living.{HasFrames, IsLive}
use Rattle.ir_run.proofs.Lived.{live_acted, may_act_here}
use Rattle.ir_run.proofs.live.Live.cross.Goals as goal

pub call_or_return-requires-clause-may : goal.call_or_return-requires-clause-may
call_or_return-requires-clause-may c =
    let u = c.self.inside in
    may_act_here (record { program = u.program; stack = u.stack; memory = u.memory; due = u.due; written = u.room.written.items }) c.args.self.now c.self.view_is c.requires.frames c.requires.live

pub returns-clause-live : goal.returns-clause-live
returns-clause-live c = λ steps h.
    live_acted steps _ _ c.call_or_return.result c.is_empty-is_last.result (subst (IsLive steps) (sym c.self.view_is) h) (subst HasFrames (sym c.self.view_is) c.requires.frames)
    c.is_empty-is_last.ensures c.call_or_return.ensures.acts c.call_or_return.ensures.keeps refl c.call_or_return.ensures.ready
