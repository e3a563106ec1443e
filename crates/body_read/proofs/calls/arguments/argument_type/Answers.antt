use Rattle.body_read.proofs.OnCalls.ArgumentLists.{type_of_parameter, type_in_front}
use Rattle.body_read.proofs.calls.arguments.argument_type.Goals as goal

pub returns-in-Some : goal.returns-in-Some
returns-in-Some c = type_of_parameter c.args.m.now c.args.parameter c.in-Some.ty c.in-Some.is c.requires

pub returns-in-None : goal.returns-in-None
returns-in-None c = type_in_front c.args.m.now c.read_type.new.m c.args.parameter c.read_type.result c.in-None.is c.read_type.ensures.takes c.read_type.ensures.known c.read_type.ensures.reads
