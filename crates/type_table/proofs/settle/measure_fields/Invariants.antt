use Rattle.std.proofs.Common.{◌≡◌, take}
use Rattle.std.specs.List.{fold}
use Rattle.type_table.specs.Measures.{measures_at, with_field, empty_struct}
use Rattle.type_table.proofs.settle.measure_fields.Given as goal

abbrev pub invariant-loop-i : goal.invariant-loop-i
invariant-loop-i l = l.sofar ≡ fold (with_field l.packed) empty_struct (measures_at l.types (take l.i l.fields))
