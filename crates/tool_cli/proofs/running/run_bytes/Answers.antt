use Rattle.std.proofs.Common.{sym, ◌∙◌, true≢false}
use Rattle.module_arena.specs.View.{module_of}
use Rattle.tool_cli.specs.Running.{program_of}
use Rattle.tool_cli.specs.World.{streams}
use Rattle.tool_cli.proofs.Programs.{begun_from_input, begun_from_nothing, program_ran, refused_ran, run_from_input, run_from_nothing}
use Rattle.tool_cli.proofs.running.run_bytes.Goals as goal

pub returns-in-Err-clause-ran : goal.returns-in-Err-clause-ran
returns-in-Err-clause-ran g c =
    let now = streams g.I.Source g.O.Sink c.args.input.now c.args.output.now in
    refused_ran c.args.name.now c.args.max_steps c.args.words.now c.args.bytes now c.in-Err.ended c.in-Err.ensures.refused

pub returns-then-is_dash-clause-ran : goal.returns-then-is_dash-clause-ran
returns-then-is_dash-clause-ran g c =
    let before = streams g.I.Source g.O.Sink c.args.input.now c.args.output.now in
    let after = streams g.I.Source g.O.Sink c.args.input.now c.run_checked.new.output in
    let m = module_of c.in-Ok.checked in
    program_ran c.args.name.now c.args.max_steps c.args.words.now c.args.bytes m before after c.run_checked.result c.in-Ok.ensures.part
    (run_from_nothing c.args.name.now (program_of c.args.max_steps c.args.words.now m) before after c.run_checked.result (rw c.bytes.ensures at (sym c.is_dash.ensures ∙ c.if-is_dash.true)) c.run_checked.ensures)

pub returns-then-is_dash-clause-not_begun : goal.returns-then-is_dash-clause-not_begun
returns-then-is_dash-clause-not_begun g c =
    let before = streams g.I.Source g.O.Sink c.args.input.now c.args.output.now in
    let after = streams g.I.Source g.O.Sink c.args.input.now c.run_checked.new.output in
    λ early. absurd (begun_from_nothing c.args.name.now (program_of c.args.max_steps c.args.words.now (module_of c.in-Ok.checked)) before after c.run_checked.result c.run_checked.ensures early)

pub returns-else-is_dash-clause-ran : goal.returns-else-is_dash-clause-ran
returns-else-is_dash-clause-ran g c =
    let before = streams g.I.Source g.O.Sink c.args.input.now c.args.output.now in
    let after = streams g.I.Source g.O.Sink c.run_checked-else-is_dash.new.input c.run_checked-else-is_dash.new.output in
    let m = module_of c.in-Ok.checked in
    program_ran c.args.name.now c.args.max_steps c.args.words.now c.args.bytes m before after c.run_checked-else-is_dash.result c.in-Ok.ensures.part
    (run_from_input c.args.name.now (program_of c.args.max_steps c.args.words.now m) before after c.run_checked-else-is_dash.result (rw c.bytes.ensures at (sym c.is_dash.ensures ∙ c.if-is_dash.false)) c.run_checked-else-is_dash.ensures)

pub returns-else-is_dash-clause-unread : goal.returns-else-is_dash-clause-unread
returns-else-is_dash-clause-unread g c = λ dash. absurd (true≢false (sym dash ∙ rw c.bytes.ensures at (sym c.is_dash.ensures ∙ c.if-is_dash.false)))

pub returns-else-is_dash-clause-not_begun : goal.returns-else-is_dash-clause-not_begun
returns-else-is_dash-clause-not_begun g c =
    let before = streams g.I.Source g.O.Sink c.args.input.now c.args.output.now in
    let after = streams g.I.Source g.O.Sink c.run_checked-else-is_dash.new.input c.run_checked-else-is_dash.new.output in
    λ early. absurd (begun_from_input c.args.name.now (program_of c.args.max_steps c.args.words.now (module_of c.in-Ok.checked)) before after c.run_checked-else-is_dash.result (rw c.bytes.ensures at (sym c.is_dash.ensures ∙ c.if-is_dash.false)) c.run_checked-else-is_dash.ensures early)
