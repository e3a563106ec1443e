use Rattle.std.proofs.Common.{◌≡◌, take}
use Rattle.indexmap.specs.IndexMap.{values}
use Rattle.type_table.specs.Measures.{struct_measures}
use Rattle.type_table.specs.Batch.{set_from}
use Rattle.type_table.proofs.settle.measure_given.Given as goal

abbrev pub invariant-loop-i : goal.invariant-loop-i
invariant-loop-i l = l.measures.items ≡ struct_measures l.types (take l.i l.had) (take l.i (set_from (values l.structs) l.first l.given))
