use Rattle.std.proofs.Common.{refl}
use Rattle.type_read.proofs.arena.list_parts.list_parts.Goals as goal

pub returns-in-Some : goal.returns-in-Some
returns-in-Some c = rw c.in-Some.is c.parts_of.ensures

pub returns-in-None : goal.returns-in-None
returns-in-None c = rw c.in-None.is refl
