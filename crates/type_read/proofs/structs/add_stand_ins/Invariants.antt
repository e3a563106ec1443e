use Rattle.type_read.specs.Listed.{HasStructs}
use Rattle.type_read.proofs.structs.add_stand_ins.Given as goal

abbrev pub invariant-structs : goal.invariant-structs
invariant-structs l = HasStructs l.number l.arena
