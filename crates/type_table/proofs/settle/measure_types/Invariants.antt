use Rattle.std.proofs.Common.{◌≡◌, take}
use Rattle.type_table.specs.Measures.{type_measures}
use Rattle.type_table.proofs.settle.measure_types.Given as goal

abbrev pub invariant-loop-ty : goal.invariant-loop-ty
invariant-loop-ty l = l.measures.items ≡ type_measures l.structs (take l.ty-index l.types)
