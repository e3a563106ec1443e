use Rattle.std.proofs.Common.{Result, Some, ◌∙◌, ap, subst, sym}
use Rattle.std.specs.Option.{option_map}
use Rattle.run_rules.specs.Clauses.{outside}
use Rattle.run_rules.specs.RunClauses.{Runs}
use Rattle.run_rules.specs.declared.end.End.{End}
use Rattle.run_rules.specs.declared.fault.RunFault.{RunFault}
use Rattle.run_actions.specs.Passing.Told.{told_seen}
use Rattle.ir_run.specs.Seen.{Answering, machine_seen, the_machine}
use Rattle.ir_run.proofs.OtherAnswers.{again_run, first_run, run_later, runs_end_so}
use Rattle.ir_run.proofs.machine.Machine.run.Goals as goal

-- what was answered is answered again
pub returns-in-Some-clause-runs : goal.returns-in-Some-clause-runs
returns-in-Some-clause-runs g c =
    let a = c.args in
    again_run a.bound c.answer.result (told_seen c.in-Some.told) (machine_seen a.self.now)
    (outside (g.I.Source.left a.input.now) (g.I.Source.faults a.input.now) (g.O.Sink.taken a.output.now) (g.O.Sink.faults a.output.now))
    (sym (ap (λ (x : Answering). x.answer) c.self.view_is) ∙ ap (option_map told_seen) c.in-Some.is) c.answer.ensures

-- or the run goes on
pub of_run-requires : goal.of_run-requires
of_run-requires g c =
    let a = c.args in
    let n = c.run-result.new in
    runs_end_so a.bound c.run-result.result (the_machine c.self.inside.inside) (the_machine n.machine)
    (outside (g.I.Source.left a.input.now) (g.I.Source.faults a.input.now) (g.O.Sink.taken a.output.now) (g.O.Sink.faults a.output.now))
    (outside (g.I.Source.left n.input) (g.I.Source.faults n.input) (g.O.Sink.taken n.output) (g.O.Sink.faults n.output)) c.run-result.ensures

pub returns-clause-runs : goal.returns-clause-runs
returns-clause-runs g c =
    let a = c.args in
    let n = c.run-result.new in
    let before = outside (g.I.Source.left a.input.now) (g.I.Source.faults a.input.now) (g.O.Sink.taken a.output.now) (g.O.Sink.faults a.output.now) in
    let after = outside (g.I.Source.left n.input) (g.I.Source.faults n.input) (g.O.Sink.taken n.output) (g.O.Sink.faults n.output) in
    subst (λ (x : Answering). Runs a.bound c.run-result.result (machine_seen x) (machine_seen (record { going = n.machine; answer = Some (told_seen c.of_run.result) })) before after) c.self.view_is
    (first_run a.bound c.run-result.result (option_map told_seen c.self.inside.answer) (Some (told_seen c.of_run.result)) (the_machine c.self.inside.inside) (the_machine n.machine) before after
    (ap (option_map told_seen) c.in_default.is) (ap (λ (t : Result End RunFault). Some t) c.of_run.ensures) c.run-result.ensures)

pub returns-clause-later : goal.returns-clause-later
returns-clause-later g c =
    let a = c.args in
    let n = c.run-result.new in
    run_later a.bound c.run-result.result (the_machine c.self.inside.inside) (the_machine n.machine)
    (outside (g.I.Source.left a.input.now) (g.I.Source.faults a.input.now) (g.O.Sink.taken a.output.now) (g.O.Sink.faults a.output.now))
    (outside (g.I.Source.left n.input) (g.I.Source.faults n.input) (g.O.Sink.taken n.output) (g.O.Sink.faults n.output)) c.run-result.ensures
