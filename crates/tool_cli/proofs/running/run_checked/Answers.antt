use Rattle.std.proofs.Common.{Err, refl}
use Rattle.module_arena.specs.View.{module_of}
use Rattle.run_rules.specs.declared.fault.RunFault.TheVariants as faults
use Rattle.tool_cli.specs.Running.{program_of}
use Rattle.tool_cli.specs.World.{streams}
use Rattle.tool_cli.proofs.Programs.{ended_run}
use Rattle.tool_cli.proofs.running.run_checked.Goals as goal

pub returns-in-Err : goal.returns-in-Err
returns-in-Err g c =
    let now = streams g.I.Source g.O.Sink c.args.input.now c.args.output.now in
    (Err faults.Memory, refl, c.early_ends_are_played.ensures.wants (program_of c.args.max_steps c.args.words.now (module_of c.args.checked)) now)

pub returns-in-Ok-run : goal.returns-in-Ok-run
returns-in-Ok-run g c =
    let before = streams g.I.Source g.O.Sink c.args.input.now c.args.output.now in
    let after = streams g.I.Source g.O.Sink c.run_module-run.new.input c.run_module-run.new.output in
    ended_run (program_of c.args.max_steps c.args.words.now (module_of c.args.checked)) before after c.in-Ok-run.end c.end_told.result c.in-Ok-run.ensures c.end_told.ensures

pub returns-in-Err-run : goal.returns-in-Err-run
returns-in-Err-run g c = (Err c.in-Err-run.fault, c.fault_told.ensures, c.in-Err-run.ensures)
