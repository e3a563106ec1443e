use Rattle.type_read.proofs.ByKind.{structure_some, structure_none}
use Rattle.type_read.proofs.records.read_structure.Goals as goal

pub returns-in-Some : goal.returns-in-Some
returns-in-Some c = structure_some c.args.count c.args.structs _ _ _ _ c.in-Some.parts c.read_flag-packed.ensures (rw c.in-Some.is at c.in_ok-parts.ensures)

pub returns-in-None : goal.returns-in-None
returns-in-None c = structure_none c.args.count c.args.structs _ _ _ _ c.read_flag-packed.ensures (rw c.in-None.is at c.in_ok-parts.ensures)
