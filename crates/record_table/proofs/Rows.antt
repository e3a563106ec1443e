-- Worked rows: the empty module, and what is refused in blocks and in types.
use Rattle.std.specs.Prelude.{◌≡◌, refl, ℕ, zero, suc, ◌/◌, Bool, true, false, List, [], ◌∷◌, ◌++◌, length, take, drop, Option, Some, Ok, codes}
use Rattle.bit_stream.specs.Bits.Bits.{bits_of}
use Rattle.bit_stream.specs.Bits.Reading.{bytes_of}
use Rattle.bit_stream.specs.Bits.Writing.{vbr_bits}
use Rattle.bit_stream.specs.Bits.Bits.{value}
use Rattle.bit_stream.specs.Spelling as spelled
use Rattle.bit_stream.specs.Writer.{begun}
use Rattle.bit_tree.specs.Written.{Written, no_more as nothing_more, a_definition, a_record as one_record, written}
use Rattle.bit_tree.specs.Stream as stream
use Rattle.ir_tables.specs.MayHave.{may_have}
use Rattle.ir_tables.specs.Opcode.{opcode_of_code}
use Rattle.ir_tables.specs.Predicate.{predicate_of_code}
use Rattle.ir_tables.specs.Linkage.{linkage_of_code}
use Rattle.type_table.specs.Shape.{name_shape}
use Rattle.module_arena.specs.Module.{empty_module}
use Rattle.record_table.specs.Walk.{next}
use Rattle.record_table.specs.Layout.{many, option_by, either_by, place}
use Rattle.record_table.specs.Fields.{label_by}
use Rattle.record_table.specs.StringTable.{label_at}
use Rattle.record_table.specs.Constants.{integer, parts, typed, of_form, read_nested, value_by}
use Rattle.record_table.specs.Lines.{arguments_by, known_type}
use Rattle.record_table.specs.Bodies.{labels_by, numbers_from}
use Rattle.record_table.specs.Faults.{RecordFault, ForeignProducer, BadVersion, UnknownRecord, BadRecord, Records, no_more, a_block, a_record}
use Rattle.record_table.specs.Records.{read, record_fault, producer}
use Rattle.record_table.specs.Spelling.{of_bytes, put_block, put_bytes, spelling, written_module, records_put}

-- in version 1 the empty module has 68 bytes
abbrev the_bytes_of_1 : List ℕ
the_bytes_of_1 = 0x42 ∷ 0x43 ∷ 0xC0 ∷ 0xDE ∷ 0x35 ∷ 0x0C ∷ 0x00 ∷ 0x00 ∷ 0x06 ∷ 0x00 ∷ 0x00 ∷ 0x00 ∷ 0x1A ∷ 0x64 ∷ 0x4C ∷ 0x10 ∷ 0x83 ∷ 0x28 ∷ 0xCD ∷ 0x8D ∷ 0xAE ∷ 0xEC ∷ 0xAC ∷ 0x4C ∷ 0x0E ∷ 0x04 ∷ 0x4E ∷ 0xEE ∷ 0xCD ∷ 0x2C ∷ 0x8D ∷ 0xAD ∷ 0x0C ∷ 0x24 ∷ 0x06 ∷ 0x00 ∷ 0x21 ∷ 0x0C ∷ 0x00 ∷ 0x00 ∷ 0x06 ∷ 0x00 ∷ 0x00 ∷ 0x00 ∷ 0x1A ∷ 0x64 ∷ 0x4C ∷ 0xD0 ∷ 0x82 ∷ 0x20 ∷ 0x48 ∷ 0xC4 ∷ 0x00 ∷ 0x00 ∷ 0x00 ∷ 0x00 ∷ 0x01 ∷ 0x00 ∷ 0x00 ∷ 0x00 ∷ 0x00 ∷ 0x00 ∷ 0x00 ∷ 0x00 ∷ 0x00 ∷ 0x00 ∷ 0x00 ∷ 0x00 ∷ []

-- all that a row computes with
unfoldable pub computed : Bool
unfolding written bytes_of bits_of value vbr_bits spelled.record_bits spelled.with_record spelled.abbreviation_for spelled.rest_of spelled.with_tail spelled.definition_bits spelled.value_bits spelled.each_bits opcode_of_code predicate_of_code linkage_of_code next many option_by either_by place label_by integer parts typed of_form read_nested value_by arguments_by known_type labels_by numbers_from name_shape label_at may_have
computed = true

abbrev bytes_written : Written → List ℕ
bytes_written all = let bits = (written begun all).bits in bytes_of (length bits / 8) bits

-- an empty module of that version without a string table
abbrev without_table : ℕ → Written
without_table version = put_bytes 13 producer (put_block 8 (a_definition of_bytes (one_record 1 (version ∷ []) (put_block 17 nothing_more nothing_more))) nothing_more)

version_1_is_written : bytes_written (without_table 1) ≡ the_bytes_of_1
unfolding computed
version_1_is_written = refl

version_1_is_read : read (records_put (without_table 1)) ≡ Ok empty_module
unfolding computed
version_1_is_read = refl

-- byte 49 changed to 40
version_2_is_written : bytes_written (without_table 2) ≡ (take 49 the_bytes_of_1 ++ 0x40 ∷ drop 50 the_bytes_of_1)
unfolding computed
version_2_is_written = refl

-- the empty module has 80 bytes, the first 36 of which are as in version 1
abbrev the_bytes : List ℕ
the_bytes = take 36 the_bytes_of_1 ++ (0x5D ∷ 0x0C ∷ 0x00 ∷ 0x00 ∷ 0x02 ∷ 0x00 ∷ 0x00 ∷ 0x00 ∷ 0x1A ∷ 0x64 ∷ 0x4C ∷ 0x10 ∷ 0x03 ∷ 0x00 ∷ 0x00 ∷ 0x00 ∷ 0x21 ∷ 0x0C ∷ 0x00 ∷ 0x00 ∷ 0x05 ∷ 0x00 ∷ 0x00 ∷ 0x00 ∷ 0x0B ∷ 0x02 ∷ 0x21 ∷ 0x11 ∷ 0x03 ∷ 0x00 ∷ 0x00 ∷ 0x00 ∷ 0x01 ∷ 0x00 ∷ 0x00 ∷ 0x00 ∷ 0x00 ∷ 0x00 ∷ 0x00 ∷ 0x00 ∷ 0x00 ∷ 0x00 ∷ 0x00 ∷ 0x00 ∷ [])

the_empty_module : spelling empty_module ≡ the_bytes
unfolding computed
the_empty_module = refl

eighty : length (spelling empty_module) ≡ 80
unfolding computed
eighty = refl

it_is_read : read (records_put (written_module empty_module)) ≡ Ok empty_module
unfolding computed
it_is_read = refl

-- the tree of these blocks and records
abbrev pub tree_of : Records → stream.StreamTree
tree_of no_more = stream.nothing
tree_of (a_block id inside behind) = stream.block id 3 0 (tree_of inside) (tree_of behind)
tree_of (a_record code operands behind) = stream.values 3 code operands false [] (tree_of behind)

abbrev pub lines : List (ℕ × List ℕ) → Records → Records
lines [] behind = behind
lines (line ∷ others) behind = a_record line.0 line.1 (lines others behind)

abbrev pub only : List (ℕ × List ℕ) → Records
only all = lines all no_more

-- our producer's block, and then this
abbrev pub ours : Records → Records
ours behind = a_block 13 (only ((1, producer) ∷ [])) behind

abbrev pub refused : Records → Option RecordFault
refused all = record_fault (tree_of all)

-- cut behind 4 bytes, and behind 36
cut_at_4 : refused no_more ≡ Some ForeignProducer
unfolding computed
cut_at_4 = refl

cut_at_36 : refused (ours no_more) ≡ Some (BadRecord 8 1 5)
unfolding computed
cut_at_36 = refl

another_profile : refused (a_block 13 (only ((1, codes "integer profile 2") ∷ [])) no_more) ≡ Some ForeignProducer
unfolding computed
another_profile = refl

-- BLOCKINFO is passed over
info_first : refused (a_block 0 (only ((1, 13 ∷ []) ∷ [])) (ours no_more)) ≡ Some (BadRecord 8 1 5)
unfolding computed
info_first = refl

version_3 : refused (ours (a_block 8 (only ((1, 3 ∷ []) ∷ [])) no_more)) ≡ Some (BadVersion 3)
unfolding computed
version_3 = refl

no_version : refused (ours (a_block 8 (only ((1, []) ∷ [])) no_more)) ≡ Some (BadRecord 8 1 1)
unfolding computed
no_version = refl

unknown_block : refused (ours (a_block 8 (lines ((1, 1 ∷ []) ∷ []) (a_block 24 no_more no_more)) no_more)) ≡ Some (UnknownRecord 24 0)
unfolding computed
unknown_block = refl

unknown_record : refused (ours (a_block 8 (only ((1, 1 ∷ []) ∷ (8, []) ∷ [])) no_more)) ≡ Some (UnknownRecord 8 8)
unfolding computed
unknown_record = refl

-- the types are missing
no_types : refused (ours (a_block 8 (only ((1, 1 ∷ []) ∷ [])) no_more)) ≡ Some (BadRecord 17 2 5)
unfolding computed
no_types = refl

-- LAYOUT stands before SOURCE
texts_swapped : refused (ours (a_block 8 (only ((1, 1 ∷ []) ∷ (3, 65 ∷ []) ∷ (2, 65 ∷ []) ∷ [])) no_more)) ≡ Some (BadRecord 8 3 5)
unfolding computed
texts_swapped = refl

-- i32, ptr, and the struct x, of which some record says what it is
abbrev pub of_types : List (ℕ × List ℕ) → List (ℕ × List ℕ) → Records → Records
of_types types globals bodies = ours (a_block 8 (lines ((1, 1 ∷ []) ∷ []) (a_block 17 (only types) (lines globals bodies))) no_more)

a_type_too_early : refused (of_types ((4, 2 ∷ 0 ∷ []) ∷ []) [] no_more) ≡ Some (BadRecord 17 2 2)
unfolding computed
a_type_too_early = refl

a_width : refused (of_types ((1, 129 ∷ []) ∷ []) [] no_more) ≡ Some (BadRecord 17 2 3)
unfolding computed
a_width = refl

too_long : refused (of_types ((1, 8 ∷ []) ∷ (4, 0x100_0000_0001 ∷ 0 ∷ []) ∷ []) [] no_more) ≡ Some (BadRecord 17 3 7)
unfolding computed
too_long = refl

-- the struct x holds itself; before it says so it is opaque
itself : refused (of_types ((6, 0 ∷ []) ∷ (7, 0 ∷ 1 ∷ 0 ∷ 120 ∷ []) ∷ []) [] no_more) ≡ Some (BadRecord 17 3 7)
unfolding computed
itself = refl

two_of_a_name : refused (of_types ((7, 2 ∷ 0 ∷ 120 ∷ []) ∷ (7, 2 ∷ 0 ∷ 120 ∷ []) ∷ []) [] no_more) ≡ Some (BadRecord 17 3 4)
unfolding computed
two_of_a_name = refl

-- a name that is refused later changes nothing before it: the type is too deep
abbrev arrays : ℕ → List (ℕ × List ℕ)
arrays zero = (6, 1 ∷ []) ∷ []
arrays (suc n) = arrays n ++ (4, 1 ∷ n ∷ []) ∷ []

bad_name_behind : refused (of_types (arrays 64 ++ (7, 2 ∷ 0 ∷ 120 ∷ []) ∷ (7, 2 ∷ 0 ∷ []) ∷ []) [] no_more) ≡ Some (BadRecord 17 66 7)
unfolding computed
bad_name_behind = refl

bad_name : refused (of_types (arrays 1 ++ (7, 2 ∷ 0 ∷ 120 ∷ []) ∷ (7, 2 ∷ 0 ∷ []) ∷ []) [] no_more) ≡ Some (BadRecord 17 5 4)
unfolding computed
bad_name = refl
