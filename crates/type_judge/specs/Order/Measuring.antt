-- For `StructMeasures::of_items`, `has` and `measure_of`: the measures of structs, found one by one.
use Rattle.std.specs.Prelude.{◌≡◌, ℕ, ◌^◌, ◌-◌, min, List, [], ◌∷◌, map, slice_index_or, slice_set, Option, Some, None}
use Rattle.std.specs.Borrow.{Bor}
use Rattle.type_table.specs.declared.measure.Measure.{Measure}
use Rattle.type_table.specs.Measures.{opaque_measure}
use Rattle.type_table.specs.Tree.{TreeBody, opaque_body, Structs}
use Rattle.module_arena.specs.Module.{Bytes}
use Rattle.type_table.specs.Names.Entries.{value_of}
use Rattle.ir_syntax.specs.declared.item.WrittenBody.{WrittenBody}
use Rattle.ir_syntax.specs.View.{body_view, items_view}
use Rattle.name_rules.specs.Written.{body_in}
use Rattle.name_rules.specs.Measured.{body_measured, look_in, struct_measures}
use Rattle.type_judge.specs.Order.Mentions.{AreNumbers}
use Rattle.type_judge.specs.declared.order.measures.MeasureTable.{MeasureTable}
use Rattle.type_judge.specs.declared.order.measures.StructMeasures.{StructMeasures}
use Rattle.name_rules.specs.ModuleOf.{structs_in}

-- the measure that stands at the number, that of an opaque struct where there is none
abbrev pub measure_at : List (Option Measure) → Option ℕ → Option Measure
measure_at measures None = Some opaque_measure
measure_at measures (Some number) = slice_index_or measures number (Some opaque_measure)

-- the measure of the struct with that name
abbrev pub found_in : List (Bytes × ℕ) → List (Option Measure) → Bytes → Option Measure
found_in numbers measures name = measure_at measures (value_of numbers name)

-- the same in a table
abbrev pub measure_in : MeasureTable → Bytes → Option Measure
measure_in table name = found_in table.numbers table.measures.items name

-- a length, cut at the greatest number of 64 bits
abbrev pub array_length : ℕ → ℕ
array_length length = min length (2 ^ 64 - 1)

-- the bodies behind these references
abbrev pub bodies_in : List (Bor WrittenBody) → List TreeBody
bodies_in bodies = map (λ body. body_in (body_view body.now)) bodies

-- the bodies of structs
abbrev pub bodies_of : Structs → List TreeBody
bodies_of structs = map (λ s. s.1) structs

-- the measures, with that of the body of the struct with that number
abbrev pub with_measure : List (Bytes × ℕ) → List TreeBody → List (Option Measure) → ℕ → List (Option Measure)
with_measure numbers bodies measures number = slice_set measures number (body_measured (found_in numbers measures) (slice_index_or bodies number opaque_body))

-- the measures, with those of the bodies of these structs, one by one
abbrev pub with_measures : List (Bytes × ℕ) → List TreeBody → List (Option Measure) → List ℕ → List (Option Measure)
with_measures numbers bodies measures [] = measures
with_measures numbers bodies measures (number ∷ more) = with_measures numbers bodies (with_measure numbers bodies measures number) more

-- the structs whose measures these are
abbrev pub structs_of : StructMeasures → Structs
structs_of all = structs_in (items_view all.items.now)

-- the table has the number and the measure of each struct
pub record AreMeasured (all : StructMeasures) : Type 0 where
  pub numbers : AreNumbers all.table.numbers (structs_of all)
  pub measures : (name : Bytes) → measure_in all.table name ≡ look_in (structs_of all) (struct_measures (structs_of all)) name
