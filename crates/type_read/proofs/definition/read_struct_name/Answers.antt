use Rattle.type_read.proofs.Names.{name_some, name_none}
use Rattle.type_read.proofs.definition.read_struct_name.Goals as goal

pub returns-in-Some : goal.returns-in-Some
returns-in-Some c = name_some _ _ _ _ _ _ c.in_ok-text.ensures c.in-Some.ensures c.is_of_bytes.ensures

pub returns-in-None : goal.returns-in-None
returns-in-None c = name_none _ _ _ _ _ c.in_ok-text.ensures c.in-None.ensures
