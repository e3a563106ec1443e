use Rattle.std.proofs.Common.{[], ◌∷◌, refl}
use Rattle.command_line.specs.declared.command.Command.TheVariants.{Assemble}
use Rattle.tool_cli.specs.World.{sinks}
use Rattle.tool_cli.proofs.Delivered.{text_assembled, assemble_work, assemble_result, assemble_refused}
use Rattle.tool_cli.proofs.Done.{delivered_done, refused_done}
use Rattle.tool_cli.proofs.assembling.assemble.Goals as goal

pub returns-in-Err : goal.returns-in-Err
returns-in-Err g c = refused_done (Assemble c.args.name.now c.args.place.now) (c.args.text ∷ []) (sinks g.O.Sink g.F.Files c.args.output.now c.args.files.now) c.in-Err.ended (assemble_refused c.args.name.now c.args.text c.args.place.now c.in-Err.ended c.in-Err.ensures.refused) c.in-Err.ensures.of_texts

pub returns : goal.returns
returns g c =
    let assembled = text_assembled c.args.text _ _ c.in-Ok.ensures.module in
    let work = assemble_work c.args.name.now c.args.text c.args.place.now _ assembled in
    let result = assemble_result c.args.name.now c.args.text c.args.place.now _ assembled in
    delivered_done (Assemble c.args.name.now c.args.place.now) (c.args.text ∷ []) c.args.place.now _ (sinks g.O.Sink g.F.Files c.args.output.now c.args.files.now) (sinks g.O.Sink g.F.Files c.deliver-ended.new.output c.deliver-ended.new.files) c.deliver-ended.result refl work result c.deliver-ended.ensures.delivered c.deliver-ended.ensures.leaves c.deliver-ended.ensures.unwritten
