use Rattle.record_table.specs.Walk.{count_left}
use Rattle.type_read.proofs.Gathered.{AreGathered}
use Rattle.type_read.proofs.records.read_parts.Given as goal

abbrev pub invariant-parts : goal.invariant-parts
invariant-parts l = AreGathered l.count l.initial.reader l.reader (count_left l.initial.reader.walk) (count_left l.reader.walk) l.parts.items

abbrev pub decreases-parts : goal.decreases-parts
decreases-parts l = count_left l.reader.walk
