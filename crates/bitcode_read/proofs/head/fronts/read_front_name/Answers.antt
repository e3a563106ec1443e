use Rattle.bitcode_read.proofs.OnHead.Named.{name_some, name_none}
use Rattle.bitcode_read.proofs.head.fronts.read_front_name.Goals as goal

pub returns-in-Some : goal.returns-in-Some
returns-in-Some c = name_some _ _ _ _ _ _ c.in_ok-text.ensures c.in-Some.ensures c.is_of_bytes.ensures

pub returns-in-None : goal.returns-in-None
returns-in-None c = name_none _ _ _ _ _ c.in_ok-text.ensures c.in-None.ensures
