use Rattle.std.proofs.Common.{[], ◌∷◌, refl}
use Rattle.command_line.specs.declared.command.Command.TheVariants.{Extract}
use Rattle.tool_cli.specs.World.{sinks}
use Rattle.tool_cli.proofs.Done.{delivered_done, refused_done}
use Rattle.tool_cli.proofs.Extracting.{extract_work, extract_result}
use Rattle.tool_cli.proofs.extraction.extract_part.Goals as goal

pub returns-in-Err : goal.returns-in-Err
returns-in-Err g c = refused_done (Extract c.args.name.now c.args.place.now c.args.text c.args.selection.now) (c.args.bytes ∷ []) (sinks g.O.Sink g.F.Files c.args.output.now c.args.files.now) c.in-Err.ended c.in-Err.ensures.work c.in-Err.ensures.of_texts

pub returns : goal.returns
returns g c =
    let work = extract_work c.args.name.now c.args.bytes c.args.place.now c.args.text c.args.selection.now _ c.in-Ok.ensures.made in
    let result = extract_result c.args.name.now c.args.bytes c.args.place.now c.args.text c.args.selection.now _ c.in-Ok.ensures.made in
    delivered_done (Extract c.args.name.now c.args.place.now c.args.text c.args.selection.now) (c.args.bytes ∷ []) c.args.place.now _ (sinks g.O.Sink g.F.Files c.args.output.now c.args.files.now) (sinks g.O.Sink g.F.Files c.deliver-ended.new.output c.deliver-ended.new.files) c.deliver-ended.result refl work result (rw c.format_of.ensures at c.deliver-ended.ensures.delivered) c.deliver-ended.ensures.leaves c.deliver-ended.ensures.unwritten
