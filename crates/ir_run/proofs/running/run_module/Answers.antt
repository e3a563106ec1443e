use Rattle.module_arena.specs.View.{module_of}
use Rattle.ir_run.specs.Seen.{machine_seen}
use Rattle.run_rules.specs.Played.Played.{Program}
use Rattle.run_rules.specs.Clauses.{outside}
use Rattle.ir_run.proofs.AnsweredRun.{end_answered, run_answered}
use Rattle.ir_run.proofs.running.run_module.Goals as goal

pub returns-in-Err : goal.returns-in-Err
returns-in-Err g c = c.early_ends_are_played.ensures.wants _ _

pub returns-in-Ended : goal.returns-in-Ended
returns-in-Ended g c =
    let p : Program = record { code = module_of c.args.checked.now; words = c.args.words.now; bound = c.args.bound } in
    let now = outside (g.I.Source.left c.args.input.now) (g.I.Source.faults c.args.input.now) (g.O.Sink.taken c.args.output.now) (g.O.Sink.faults c.args.output.now) in
    end_answered c.early_ends_are_played.ensures p c.in-Ok.opened c.in-Ended.end now c.in-Ended.is c.in-Ok.ensures

pub returns : goal.returns
returns g c =
    let p : Program = record { code = module_of c.args.checked.now; words = c.args.words.now; bound = c.args.bound } in
    let before = outside (g.I.Source.left c.args.input.now) (g.I.Source.faults c.args.input.now) (g.O.Sink.taken c.args.output.now) (g.O.Sink.faults c.args.output.now) in
    let after = outside (g.I.Source.left c.run.new.input) (g.I.Source.faults c.run.new.input) (g.O.Sink.taken c.run.new.output) (g.O.Sink.faults c.run.new.output) in
    run_answered c.runs_are_played.ensures p c.in-Ok.opened c.in-Ready.machine (machine_seen c.run.new.self) c.run.result before after c.in-Ready.is c.in-Ok.ensures c.run.ensures.runs
