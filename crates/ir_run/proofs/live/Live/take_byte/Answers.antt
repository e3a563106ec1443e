use Rattle.std.proofs.Common.{ap, subst}
use Rattle.run_rules.specs.Clauses.{outside}
use Rattle.run_actions.specs.Passing.Traffic.{Gets}
use Rattle.ir_run.specs.Living.{Living}
use Rattle.ir_run.proofs.Lived.{byte_seen, takes_seen}
use Rattle.ir_run.proofs.live.Live.take_byte.Goals as goal

pub get-requires : goal.get-requires
get-requires g c =
    let u = c.self.inside in
    takes_seen c.args.to (record { program = u.program; stack = u.stack; memory = u.memory; due = u.due; written = u.room.written.items }) c.args.self.now c.self.view_is c.requires

pub returns-clause-gets : goal.returns-clause-gets
returns-clause-gets g c =
    let a = c.args in
    let n = c.get.new in
    subst
    (λ (l : Living). Gets a.to c.get.result l.stack n.stack a.waiting.now n.waiting a.held.now n.held
    (outside (g.I.Source.left a.input.now) (g.I.Source.faults a.input.now) (g.O.Sink.taken a.output.now) (g.O.Sink.faults a.output.now))
    (outside (g.I.Source.left n.source) (g.I.Source.faults n.source) (g.O.Sink.taken n.sink) (g.O.Sink.faults n.sink))) c.self.view_is c.get.ensures.got

pub returns-clause-others : goal.returns-clause-others
returns-clause-others g c = ap (λ (l : Living). record l { stack = c.get.new.stack }) c.self.view_is

pub returns-clause-live : goal.returns-clause-live
returns-clause-live g c =
    let a = c.args in
    let u = c.self.inside in
    let n = c.get.new in
    byte_seen a.to (record { program = u.program; stack = u.stack; memory = u.memory; due = u.due; written = u.room.written.items }) a.self.now n.stack c.get.result a.waiting.now n.waiting a.held.now n.held
    (outside (g.I.Source.left a.input.now) (g.I.Source.faults a.input.now) (g.O.Sink.taken a.output.now) (g.O.Sink.faults a.output.now))
    (outside (g.I.Source.left n.source) (g.I.Source.faults n.source) (g.O.Sink.taken n.sink) (g.O.Sink.faults n.sink)) c.self.view_is c.get.ensures.got
