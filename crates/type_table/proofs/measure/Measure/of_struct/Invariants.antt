use Rattle.std.proofs.Common.{◌≡◌, take}
use Rattle.std.specs.List.{fold}
use Rattle.type_table.specs.Measures.{empty_struct, with_field}
use Rattle.type_table.proofs.measure.Measure.of_struct.Given as goal

abbrev pub invariant-loop-field : goal.invariant-loop-field
invariant-loop-field l = l.sofar ≡ fold (with_field l.packed) empty_struct (take l.field-index l.fields)
