use Rattle.std.proofs.Common.{◌≡◌, ◌-◌, drop}
use Rattle.type_table.specs.Measures.{measures_at, empty_struct}
use Rattle.type_table.specs.Outline.{offset_from}
use Rattle.type_table.proofs.settle.field_offset.Given as goal

abbrev pub invariant-loop-i : goal.invariant-loop-i
invariant-loop-i l =
    offset_from l.packed l.sofar (measures_at l.types (drop l.i l.fields)) (l.field - l.i) ≡ offset_from l.packed empty_struct (measures_at l.types l.fields) l.field
