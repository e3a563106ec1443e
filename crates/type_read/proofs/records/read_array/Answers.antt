use Rattle.type_read.proofs.ByKind.{array_some, array_none}
use Rattle.type_read.proofs.records.read_array.Goals as goal

pub returns-in-Some : goal.returns-in-Some
returns-in-Some c = array_some c.args.count c.args.structs _ _ _ _ _ c.number-length.ensures c.in-Some.ensures

pub returns-in-None : goal.returns-in-None
returns-in-None c = array_none c.args.count c.args.structs _ _ _ _ c.number-length.ensures c.in-None.ensures
