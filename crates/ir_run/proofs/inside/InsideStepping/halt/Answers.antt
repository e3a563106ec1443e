use Rattle.std.proofs.Common.{true, subst}
use Rattle.run_rules.specs.declared.end.End.{End}
use Rattle.run_rules.specs.Clauses.{outside}
use Rattle.run_actions.specs.Loops.Halts as halts
use Rattle.run_actions.specs.Passing.Traffic as traffic
use Rattle.ir_run.specs.Living.{Enters, going}
use Rattle.ir_run.specs.Seen.{Going, the_machine}
use Rattle.ir_run.proofs.Onward.{from_going, halt_over, halt_used}
use Rattle.ir_run.proofs.inside.InsideStepping.halt.Goals as goal

pub returns-in-Some : goal.returns-in-Some
returns-in-Some g c =
    let u = c.self.inside in
    let l = g.I.Source.left c.args._input.now in
    let f = g.I.Source.faults c.args._input.now in
    let t = g.O.Sink.taken c.args.output.now in
    let w = g.O.Sink.faults c.args.output.now in
    let held = c.finish-in-Some.new.held in
    let sink = c.finish-in-Some.new.sink in
    from_going (λ (x : Going). halts.Finishes c.finish-in-Some.result (the_machine x) (the_machine (going c.enter_due.new.self u.input held u.steps true)) (outside l f t w) (outside l f (g.O.Sink.taken sink) (g.O.Sink.faults sink)))
    u.live u.input u.output u.steps u.is_over c.args.self.now c.if-self.false c.self.view_is
    (halt_over u.live c.enter_due.new.self u.input u.output held u.steps l t (g.O.Sink.taken sink) f w (g.O.Sink.faults sink) c.in-Some.sooner c.finish-in-Some.result
    (subst (λ s. Enters s u.live c.enter_due.new.self) c.in-Some.is c.in_ok-sooner.ensures.entered)
    (subst (λ (e : End). traffic.Finishes e c.finish-in-Some.result u.output held t w (g.O.Sink.taken sink) (g.O.Sink.faults sink)) c.end.ensures c.finish-in-Some.ensures))

pub returns-in-None : goal.returns-in-None
returns-in-None g c =
    let u = c.self.inside in
    let l = g.I.Source.left c.args._input.now in
    let f = g.I.Source.faults c.args._input.now in
    let t = g.O.Sink.taken c.args.output.now in
    let w = g.O.Sink.faults c.args.output.now in
    let held = c.finish-in-None.new.held in
    let sink = c.finish-in-None.new.sink in
    from_going (λ (x : Going). halts.Finishes c.finish-in-None.result (the_machine x) (the_machine (going c.enter_due.new.self u.input held u.steps true)) (outside l f t w) (outside l f (g.O.Sink.taken sink) (g.O.Sink.faults sink)))
    u.live u.input u.output u.steps u.is_over c.args.self.now c.if-self.false c.self.view_is
    (halt_used u.live c.enter_due.new.self u.input u.output held u.steps l t (g.O.Sink.taken sink) f w (g.O.Sink.faults sink) c.finish-in-None.result
    (subst (λ s. Enters s u.live c.enter_due.new.self) c.in-None.is c.in_ok-sooner.ensures.entered)
    c.finish-in-None.ensures)
