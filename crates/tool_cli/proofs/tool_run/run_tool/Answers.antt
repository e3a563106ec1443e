use Rattle.tool_cli.specs.World.{streams}
use Rattle.tool_cli.proofs.Headline.{headline}
use Rattle.tool_cli.proofs.Ran.{ran_module}
use Rattle.tool_cli.proofs.tool_run.run_tool.Goals as goal

pub returns-clause-ends : goal.returns-clause-ends
returns-clause-ends g c = c.ended_of-ended.ensures

pub returns-clause-headline : goal.returns-clause-headline
returns-clause-headline g c = λ held stdin tells. headline c.one_module.ensures c.canon_is_read_back.ensures c.modules_are_spelled_alone.ensures _ held stdin _ _ _ _ (c.ended_of-ended.ensures.told held stdin tells) (c.ended_of-ended.ensures.shown held stdin tells.inputs)

pub returns-clause-ran : goal.returns-clause-ran
returns-clause-ran g c =
    let before = streams g.I.Source g.O.Sink c.args.input.now c.args.output.now in
    let after = streams g.I.Source g.O.Sink c.ended_of-ended.new.input c.ended_of-ended.new.output in
    λ held stdin tells.
    ran_module c.one_module.ensures c.args.words.now held stdin before after c.ended_of-ended.result _ tells.heard (c.ended_of-ended.ensures.told held stdin tells) (c.ended_of-ended.ensures.played held stdin tells.inputs)
