use Rattle.std.proofs.Common.{◌+◌, refl, sym, subst}
use Rattle.ir_run.specs.Living.{HasFrames, IsLive, Living}
use Rattle.ir_run.specs.Stretch.{Walks}
use Rattle.ir_run.proofs.EnteringDue.{some_frames}
use Rattle.ir_run.proofs.Stretches.{live_of, same_behind, same_walks}
use Rattle.ir_run.proofs.live.Live.go_on.Goals as goal

pub walk-requires : goal.walk-requires
walk-requires c =
    let u = c.self.inside in
    let l : Living = record { program = u.program; stack = u.stack; memory = u.memory; due = u.due; written = u.room.written.items } in
    let running = some_frames c.args.self.now.stack.frames _ c.if-is_idle.ensures refl in
    (c.requires.0, u.due, live_of c.requires.0 l (subst (IsLive c.requires.0) (sym c.self.view_is) c.requires.1), subst HasFrames (sym c.self.view_is) running, c.requires.2)

pub returns-clause-walks : goal.returns-clause-walks
returns-clause-walks c =
    let u = c.self.inside in
    let l : Living = record { program = u.program; stack = u.stack; memory = u.memory; due = u.due; written = u.room.written.items } in
    let new : Living = record l { stack = c.walk.new.stack; memory = c.walk.new.memory } in
    subst (λ (x : Living). Walks c.walk.result x new) c.self.view_is (same_walks c.walk.result l new (c.walk.ensures.walks u.due))

pub returns-clause-live : goal.returns-clause-live
returns-clause-live c = λ steps h.
    let u = c.self.inside in
    let l : Living = record { program = u.program; stack = u.stack; memory = u.memory; due = u.due; written = u.room.written.items } in
    let new : Living = record l { stack = c.walk.new.stack; memory = c.walk.new.memory } in
    same_behind (steps + c.walk.result.count) c.walk.result.end new (c.walk.ensures.live steps u.due (live_of steps l (subst (IsLive steps) (sym c.self.view_is) h)))
