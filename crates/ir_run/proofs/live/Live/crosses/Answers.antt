use Rattle.std.proofs.Common.{ap, ◌∙◌}
use Rattle.run_acts.specs.Acting.{is_outer_here}
use Rattle.ir_run.specs.Living.{Living}
use Rattle.ir_run.proofs.Lived.{may_act_here}
use Rattle.ir_run.proofs.live.Live.crosses.Goals as goal

pub calls_or_returns-requires : goal.calls_or_returns-requires
calls_or_returns-requires c =
    let u = c.self.inside in
    (u.memory, may_act_here (record { program = u.program; stack = u.stack; memory = u.memory; due = u.due; written = u.room.written.items }) c.args.self.now c.self.view_is c.requires.frames c.requires.live)

pub returns : goal.returns
returns c = c.calls_or_returns.ensures ∙ ap (λ (l : Living). is_outer_here l.program l.stack) c.self.view_is
