-- Worked rows of version 2.
use Rattle.std.specs.Prelude.{◌≡◌, refl, ℕ, ◌^◌, false, List, [], ◌∷◌, Option, Some, None, Ok, Err, codes, replicate}
use Rattle.ir_tables.specs.declared.linkage.Linkage.TheVariants.{External}
use Rattle.type_table.specs.Tree.{int}
use Rattle.module_arena.specs.Module.{Module, Integer, PlainType, empty_module}
use Rattle.record_table.specs.StringTable.{once_each, joined, offset_in}
use Rattle.record_table.specs.Faults.{RecordFault, Answer, BadVersion, BadRecord, UnknownRecord, Records, no_more, a_block}
use Rattle.record_table.specs.Records.{read, Sofar, at_first, alias_record}
use Rattle.record_table.specs.Fields.{version_1}
use Rattle.record_table.specs.Spelling.{string_table, written_module, records_put}
use Rattle.record_table.proofs.Rows.{computed, only, ours, refused, lines}

-- ---- the table

-- source_filename = "a" @a = global i1 0
abbrev named_as_its_file : Module
named_as_its_file = record empty_module { source = Some (codes "a"); variables = record { name = codes "a"; linkage = External; constant = false; ty = int 1; alignment = None; initialiser = Some (Integer 0) } ∷ [] }

one_text : string_table named_as_its_file ≡ (0x61 ∷ [])
one_text = refl

abbrev its_records : Records
its_records = ours (a_block 23 (only ((1, 0x61 ∷ []) ∷ [])) (a_block 8 (lines ((1, 2 ∷ []) ∷ (2, 0 ∷ 1 ∷ []) ∷ [])
    (a_block 17 (only ((1, 1 ∷ []) ∷ [])) (only ((5, 0 ∷ 1 ∷ 0 ∷ 0 ∷ 0 ∷ 0 ∷ 1 ∷ 1 ∷ 0 ∷ []) ∷ [])))) no_more))

its_offsets : records_put (written_module named_as_its_file) ≡ its_records
unfolding computed
its_offsets = refl

they_are_read : read its_records ≡ Ok named_as_its_file
unfolding computed
they_are_read = refl

-- a text is found again as a whole, not within others
whole_texts : (joined (once_each (codes "ab" ∷ codes "b" ∷ [] ∷ codes "ab" ∷ codes "c" ∷ [])) ≡ codes "abbc") × (offset_in (once_each (codes "ab" ∷ codes "b" ∷ codes "c" ∷ [])) (codes "b") ≡ 2) × (offset_in (codes "ab" ∷ []) [] ≡ 0)
whole_texts = (refl, refl, refl)

-- ---- where a table stands

-- a module of that version behind these bytes
abbrev behind_table : ℕ → Records
behind_table version = ours (a_block 23 (only ((1, codes "abc") ∷ [])) (a_block 8 (lines ((1, version ∷ []) ∷ []) (a_block 17 no_more no_more)) no_more))

accepted : refused (behind_table 2) ≡ None
unfolding computed
accepted = refl

version_1_behind_a_table : refused (behind_table 1) ≡ Some (BadRecord 8 2 5)
unfolding computed
version_1_behind_a_table = refl

version_3_behind_a_table : refused (behind_table 3) ≡ Some (BadVersion 3)
unfolding computed
version_3_behind_a_table = refl

version_2_without_a_table : refused (ours (a_block 8 (lines ((1, 2 ∷ []) ∷ []) (a_block 17 no_more no_more)) no_more)) ≡ Some (BadRecord 8 1 5)
unfolding computed
version_2_without_a_table = refl

-- the 80 bytes cut to 52
no_module : refused (ours (a_block 23 (only ((1, []) ∷ [])) no_more)) ≡ Some (BadRecord 8 2 5)
unfolding computed
no_module = refl

two_tables : refused (ours (a_block 23 (only ((1, []) ∷ [])) (a_block 23 (only ((1, []) ∷ [])) no_more))) ≡ Some (BadRecord 23 2 5)
unfolding computed
two_tables = refl

table_behind_the_module : refused (ours (a_block 8 (lines ((1, 1 ∷ []) ∷ []) (a_block 17 no_more no_more)) (a_block 23 (only ((1, []) ∷ [])) no_more))) ≡ Some (BadRecord 23 2 5)
unfolding computed
table_behind_the_module = refl

table_in_the_module : refused (ours (a_block 8 (lines ((1, 1 ∷ []) ∷ []) (a_block 23 (only ((1, []) ∷ [])) no_more)) no_more)) ≡ Some (BadRecord 23 2 5)
unfolding computed
table_in_the_module = refl

-- ---- what a table's block holds

abbrev of_table : List (ℕ × List ℕ) → Records
of_table all = ours (a_block 23 (only all) no_more)

empty_block : refused (of_table []) ≡ Some (BadRecord 23 1 5)
unfolding computed
empty_block = refl

two_records : refused (of_table ((1, []) ∷ (1, []) ∷ [])) ≡ Some (BadRecord 23 2 5)
unfolding computed
two_records = refl

no_byte : refused (of_table ((1, 97 ∷ 256 ∷ []) ∷ [])) ≡ Some (BadRecord 23 1 3)
unfolding computed
no_byte = refl

unknown_code : refused (of_table ((2, []) ∷ [])) ≡ Some (UnknownRecord 23 2)
unfolding computed
unknown_code = refl

-- ---- texts in records

-- source_filename with these operands, in a table of abc
abbrev with_source : List ℕ → Option RecordFault
with_source operands = refused (ours (a_block 23 (only ((1, codes "abc") ∷ [])) (a_block 8 (lines ((1, 2 ∷ []) ∷ (2, operands) ∷ []) (a_block 17 no_more no_more)) no_more)))

last_byte : with_source (2 ∷ 1 ∷ []) ≡ None
unfolding computed
last_byte = refl

empty_at_the_end : with_source (3 ∷ 0 ∷ []) ≡ None
unfolding computed
empty_at_the_end = refl

past_the_end : with_source (2 ∷ 2 ∷ []) ≡ Some (BadRecord 8 3 8)
unfolding computed
past_the_end = refl

far_past_the_end : with_source (2 ^ 63 ∷ 2 ^ 63 ∷ []) ≡ Some (BadRecord 8 3 8)
unfolding computed
far_past_the_end = refl

no_size : with_source (2 ∷ []) ≡ Some (BadRecord 8 3 1)
unfolding computed
no_size = refl

one_operand_more : with_source (9 ∷ 9 ∷ 9 ∷ []) ≡ Some (BadRecord 8 3 1)
unfolding computed
one_operand_more = refl

-- an opaque struct whose name stands so, in a table of a, a zero byte and b
abbrev with_struct : List ℕ → Option RecordFault
with_struct place = refused (ours (a_block 23 (only ((1, 97 ∷ 0 ∷ 98 ∷ []) ∷ [])) (a_block 8 (lines ((1, 2 ∷ []) ∷ []) (a_block 17 (only ((7, 2 ∷ 0 ∷ place) ∷ [])) no_more)) no_more)))

struct_of_a_name : with_struct (2 ∷ 1 ∷ []) ≡ None
unfolding computed
struct_of_a_name = refl

empty_name : with_struct (0 ∷ 0 ∷ []) ≡ Some (BadRecord 17 3 4)
unfolding computed
empty_name = refl

zero_byte : with_struct (0 ∷ 2 ∷ []) ≡ Some (BadRecord 17 3 4)
unfolding computed
zero_byte = refl

name_past_the_end : with_struct (2 ∷ 2 ∷ []) ≡ Some (BadRecord 17 3 8)
unfolding computed
name_past_the_end = refl

-- it is empty and past the end
empty_name_past_the_end : with_struct (4 ∷ 0 ∷ []) ≡ Some (BadRecord 17 3 4)
unfolding computed
empty_name_past_the_end = refl

-- void @f() with a parameter of this name, in a table of f
abbrev with_parameter : List ℕ → Option RecordFault
with_parameter operands = refused (ours (a_block 23 (only ((1, codes "f") ∷ [])) (a_block 8 (lines ((1, 2 ∷ []) ∷ []) (a_block 17 (only ((3, []) ∷ (1, 8 ∷ []) ∷ []))
    (lines ((6, 0 ∷ 1 ∷ 0 ∷ 1 ∷ 0 ∷ 0 ∷ 1 ∷ 1 ∷ []) ∷ []) (a_block 12 (only ((1, operands) ∷ (2, 0 ∷ []) ∷ (40, 0 ∷ []) ∷ [])) no_more)))) no_more)))

named_parameter : with_parameter (2 ∷ 0 ∷ []) ≡ None
unfolding computed
named_parameter = refl

numbered_parameter : with_parameter (0 ∷ []) ≡ None
unfolding computed
numbered_parameter = refl

no_offset : with_parameter (2 ∷ []) ≡ Some (BadRecord 12 6 1)
unfolding computed
no_offset = refl

empty_parameter : with_parameter (1 ∷ 0 ∷ []) ≡ Some (BadRecord 12 6 4)
unfolding computed
empty_parameter = refl

parameter_past_the_end : with_parameter (3 ∷ 0 ∷ []) ≡ Some (BadRecord 12 6 8)
unfolding computed
parameter_past_the_end = refl

-- ---- aliases among the records of version 1: @x and @f are there

abbrev with_globals : List (ℕ × List ℕ) → Option RecordFault
with_globals all = refused (ours (a_block 8 (lines ((1, 1 ∷ []) ∷ []) (a_block 17 (only ((1, 32 ∷ []) ∷ [])) (only all))) no_more))

abbrev x_record : ℕ × List ℕ
x_record = (5, 1 ∷ 120 ∷ 0 ∷ 0 ∷ 0 ∷ 0 ∷ 1 ∷ 1 ∷ 5 ∷ [])

abbrev f_record : ℕ × List ℕ
f_record = (6, 1 ∷ 102 ∷ 0 ∷ 0 ∷ 0 ∷ 0 ∷ 0 ∷ [])

-- @y = alias i32, ptr @x
abbrev y_record : ℕ × List ℕ
y_record = (7, 1 ∷ 121 ∷ 0 ∷ 0 ∷ 0 ∷ 0 ∷ [])

alias_accepted : with_globals (x_record ∷ f_record ∷ y_record ∷ []) ≡ None
unfolding computed
alias_accepted = refl

alias_too_early : with_globals (x_record ∷ y_record ∷ f_record ∷ []) ≡ Some (BadRecord 8 5 5)
unfolding computed
alias_too_early = refl

alias_named_as_a_function : with_globals (x_record ∷ f_record ∷ (7, 1 ∷ 102 ∷ 0 ∷ 0 ∷ 0 ∷ 0 ∷ []) ∷ []) ≡ Some (BadRecord 8 5 4)
unfolding computed
alias_named_as_a_function = refl

-- @x so often, and then @y: with it there is one entry too many for declarations to stand for aliases
unfoldable with_variables : ℕ → Sofar
with_variables n = record (at_first version_1 0 no_more) {
  last = 6;
  variables = replicate n (record { name = codes "x"; linkage = External; constant = false; ty = int 32; alignment = None; initialiser = None });
}

abbrev broken_by : Answer Sofar → Option RecordFault
broken_by (Ok s) = None
broken_by (Err fault) = Some fault

abbrev with_y : ℕ → Option RecordFault
with_y n = broken_by (alias_record (with_variables n) (record { name = codes "y"; linkage = External; ty = PlainType (int 32); target = codes "x" }, None))

as_many_as_there_may_be : with_y 262143 ≡ None
unfolding with_variables
as_many_as_there_may_be = refl

one_too_many : with_y 262144 ≡ Some (BadRecord 8 0 7)
unfolding with_variables
one_too_many = refl

alias_twice : with_globals (x_record ∷ y_record ∷ y_record ∷ []) ≡ Some (BadRecord 8 5 4)
unfolding computed
alias_twice = refl
