use Rattle.std.proofs.Common.{◌∙◌, ap, subst, sym}
use Rattle.std.specs.Option.{option_map}
use Rattle.run_rules.specs.Clauses.{Steps, outside}
use Rattle.run_actions.specs.Passing.Told.{told_seen}
use Rattle.ir_run.specs.Seen.{Answering, machine_seen, the_machine}
use Rattle.ir_run.proofs.OtherAnswers.{again_step, first_step, step_later, steps_end_so}
use Rattle.ir_run.proofs.machine.Machine.step.Goals as goal

-- what was answered is answered again
pub returns-in-Some-clause-steps : goal.returns-in-Some-clause-steps
returns-in-Some-clause-steps g c =
    let a = c.args in
    again_step c.step_answer.result (told_seen c.in-Some.told) (machine_seen a.self.now)
    (outside (g.I.Source.left a.input.now) (g.I.Source.faults a.input.now) (g.O.Sink.taken a.output.now) (g.O.Sink.faults a.output.now))
    (sym (ap (λ (x : Answering). x.answer) c.self.view_is) ∙ ap (option_map told_seen) c.in-Some.is) c.step_answer.ensures

-- or a step is made
pub of_step-self-inside-requires : goal.of_step-self-inside-requires
of_step-self-inside-requires g c =
    let a = c.args in
    let n = c.step-result.new in
    steps_end_so c.step-result.result (the_machine c.self.inside.inside) (the_machine n.self)
    (outside (g.I.Source.left a.input.now) (g.I.Source.faults a.input.now) (g.O.Sink.taken a.output.now) (g.O.Sink.faults a.output.now))
    (outside (g.I.Source.left n.input) (g.I.Source.faults n.input) (g.O.Sink.taken n.output) (g.O.Sink.faults n.output)) c.step-result.ensures

pub returns-clause-steps : goal.returns-clause-steps
returns-clause-steps g c =
    let a = c.args in
    let n = c.step-result.new in
    let before = outside (g.I.Source.left a.input.now) (g.I.Source.faults a.input.now) (g.O.Sink.taken a.output.now) (g.O.Sink.faults a.output.now) in
    let after = outside (g.I.Source.left n.input) (g.I.Source.faults n.input) (g.O.Sink.taken n.output) (g.O.Sink.faults n.output) in
    let kept = option_map told_seen c.of_step-self-inside.result in
    subst (λ (x : Answering). Steps c.step-result.result (machine_seen x) (machine_seen (record { going = n.self; answer = kept })) before after) c.self.view_is
    (first_step c.step-result.result (option_map told_seen c.self.inside.answer) kept (the_machine c.self.inside.inside) (the_machine n.self) before after
    (ap (option_map told_seen) c.in_default.is) c.of_step-self-inside.ensures c.step-result.ensures)

pub returns-clause-later : goal.returns-clause-later
returns-clause-later g c =
    let a = c.args in
    let n = c.step-result.new in
    step_later c.step-result.result (the_machine c.self.inside.inside) (the_machine n.self)
    (outside (g.I.Source.left a.input.now) (g.I.Source.faults a.input.now) (g.O.Sink.taken a.output.now) (g.O.Sink.faults a.output.now))
    (outside (g.I.Source.left n.input) (g.I.Source.faults n.input) (g.O.Sink.taken n.output) (g.O.Sink.faults n.output)) c.step-result.ensures
