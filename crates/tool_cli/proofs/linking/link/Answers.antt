use Rattle.std.proofs.Common.{refl}
use Rattle.command_line.specs.declared.command.Command.TheVariants.{Link}
use Rattle.tool_cli.specs.World.{sinks}
use Rattle.tool_cli.proofs.Delivered.{link_result}
use Rattle.tool_cli.proofs.Done.{delivered_done, refused_done}
use Rattle.tool_cli.proofs.linking.link.Goals as goal

pub returns-in-Err : goal.returns-in-Err
returns-in-Err g c = refused_done (Link c.args.names.now c.args.place.now c.args.text) c.args.texts (sinks g.O.Sink g.F.Files c.args.output.now c.args.files.now) c.in-Err.ended c.in-Err.ensures.refused c.in-Err.ensures.of_texts

pub returns : goal.returns
returns g c =
    let result = link_result c.args.names.now c.args.texts c.args.place.now c.args.text _ c.in-Ok.ensures.made in
    delivered_done (Link c.args.names.now c.args.place.now c.args.text) c.args.texts c.args.place.now _ (sinks g.O.Sink g.F.Files c.args.output.now c.args.files.now) (sinks g.O.Sink g.F.Files c.deliver-ended.new.output c.deliver-ended.new.files) c.deliver-ended.result refl c.in-Ok.ensures.linking result (rw c.format_of.ensures at c.deliver-ended.ensures.delivered) c.deliver-ended.ensures.leaves c.deliver-ended.ensures.unwritten
