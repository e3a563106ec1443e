use Rattle.type_read.proofs.StandIns.{gathered_named, stands_result}
use Rattle.type_read.proofs.structs.name_structs.Goals as goal

pub returns-in-None : goal.returns-in-None
returns-in-None c = λ all h. gathered_named c.args.gathered c.args.names all h c.in-None.is

pub returns-in-Some : goal.returns-in-Some
returns-in-Some c = λ all h. stands_result c.stand_ins.result c.args.gathered c.args.names all _ h c.in-Some.is c.stand_ins.ensures
