-- For `write` of bitcode: the one spelling of a module.
use Rattle.std.specs.Prelude.{◌≡◌, ◌↔◌, ℕ, ◌+◌, ◌/◌, Bool, List, [], ◌∷◌, ◌++◌, length, map, flat_map, filter_map, option_to_list, option_map, Option, is_some}
use Rattle.ir_tables.specs.Opcode.{opcode_code}
use Rattle.bit_stream.specs.Bits.Reading.{bytes_of}
use Rattle.bit_stream.specs.declared.abbreviation.AbbrevOp.{AbbrevOp}
use Rattle.bit_stream.specs.declared.abbreviation.AbbrevOp.TheVariants.{Fixed, Vbr, Array}
use Rattle.bit_stream.specs.Writer.{begun}
use Rattle.bit_tree.specs.Written.{Written, no_more, a_block, a_definition, a_record, a_short_record, written}
use Rattle.type_table.specs.declared.ir_type.IrType.{IrType}
use Rattle.type_table.specs.declared.ir_type.IrType.TheVariants as ids
use Rattle.type_table.specs.declared.ir_type.StructBody.{StructBody}
use Rattle.type_table.specs.declared.ir_type.StructBody.TheVariants as bodies
use Rattle.type_table.specs.Tree.{Tree, int, ptr, void, array, struct, named, Trees, no_trees, more_trees, TreeBody, opaque_body, fields, index_of}
use Rattle.module_arena.specs.Module.{Bytes, LocalName, Instruction, Ending, Block, Function, Module}
use Rattle.record_table.specs.Layout.{place}
use Rattle.record_table.specs.StringTable.{once_each, joined, in_table_of}
use Rattle.record_table.specs.Fields.{Texts, Numbering, label, name_in}
use Rattle.module_arena.specs.Names.{parameter_names}
use Rattle.module_arena.specs.Same.{same_type}
use Rattle.record_table.specs.Lines.{instruction, operation_opcode, ending, ending_opcode}
use Rattle.record_table.specs.Faults.{Records, no_more as nothing_more, a_record as one_record, but_for_info, producer_id, table_id, module_id, types_id, body_id}
use Rattle.record_table.specs.TypeRecords.{ir_type, kind_of, kind_code, definition}
use Rattle.record_table.specs.Records.{producer, version, variable, function, alias, Spells}
use Rattle.record_table.specs.Bodies.{parameters}
use Rattle.record_table.specs.Mentions.{mentioned}

-- a record's code and its operands
abbrev pub Line : Type 0
Line = ℕ × List ℕ

-- records that are written one by one, and then this
abbrev pub put : List Line → Written → Written
put [] behind = behind
put (line ∷ lines) behind = a_record line.0 line.1 (put lines behind)

-- a type by the places of its parts and the number of its struct
abbrev pub places : List Tree → Trees → List ℕ
places all no_trees = []
places all (more_trees t ts) = place same_type all t ∷ places all ts

-- a type by the places of its parts, and by the number of its struct
abbrev pub by_ids : List Tree → List Bytes → Tree → IrType
by_ids all names (int w) = ids.Int w
by_ids all names ptr = ids.Ptr
by_ids all names void = ids.Void
by_ids all names (array n t) = ids.Array n (place same_type all t)
by_ids all names (struct packed ts) = ids.Struct packed (places all ts)
by_ids all names (named name) = ids.Named (index_of names name)

-- a body by the places of its fields
abbrev pub body_by_ids : List Tree → TreeBody → StructBody
body_by_ids all opaque_body = bodies.Opaque
body_by_ids all (fields Bool.false ts) = bodies.Plain (places all ts)
body_by_ids all (fields Bool.true ts) = bodies.Packed (places all ts)

-- the record of a type
abbrev pub type_line : IrType → Line
type_line t = (kind_code (kind_of t), (ir_type 0 0 (kind_of t)).spell t)

-- the block of types
abbrev pub type_lines : Texts → List Tree → Module → List Line
type_lines texts all m =
    map (λ t. type_line (by_ids all (map (λ s. s.0) m.structs) t)) all
    ++ map (λ s. (7, (definition texts 0).spell (body_by_ids all s.1, s.0))) m.structs

-- the results of a block
abbrev pub results : Block → List LocalName
results b = flat_map (λ i. option_to_list i.result) b.instructions

-- the record of an instruction
abbrev pub instruction_line : Texts → Numbering → Instruction → Line
instruction_line texts k i = (10 + opcode_code (operation_opcode i.operation), (instruction texts k 0 (operation_opcode i.operation)).spell i)

-- the record of an end
abbrev pub ending_line : Numbering → Ending → Line
ending_line k e = (10 + opcode_code (ending_opcode e), (ending k (ending_opcode e)).spell e)

-- the records of a block
abbrev pub block_lines : Texts → Numbering → Block → List Line
block_lines texts k b = (2, (label texts 0).spell b.name) ∷ map (instruction_line texts k) b.instructions ++ ending_line k b.ending ∷ []

-- what indices stand for in a body
abbrev pub within : Numbering → Function → List Block → Numbering
within k f blocks = record k { values = parameter_names f ++ flat_map results blocks; blocks = map (λ b. b.name) blocks }

-- the records of a body
abbrev pub body_lines : Texts → Numbering → Function → List Block → List Line
body_lines texts k f blocks = (1, (parameters texts 0).spell (parameter_names f)) ∷ flat_map (block_lines texts (within k f blocks)) blocks

-- those of the body of a function, where it has one
abbrev pub body_of : Texts → Numbering → Function → Option (List Line)
body_of texts k f = option_map (body_lines texts k f) f.body

-- each block has ids of three bits
abbrev pub put_block : ℕ → Written → Written → Written
put_block id inside behind = a_block id 3 inside behind

-- the blocks of bodies
abbrev pub put_bodies : List (List Line) → Written → Written
put_bodies [] behind = behind
put_bodies (lines ∷ others) behind = put_block body_id (put lines no_more) (put_bodies others behind)

-- a block of one record of bytes, which begins with the abbreviation for it: bytes behind a code
abbrev pub of_bytes : List AbbrevOp
of_bytes = Vbr 6 ∷ Array ∷ Fixed 8 ∷ []

-- such a block
abbrev pub put_bytes : ℕ → List ℕ → Written → Written
put_bytes id bytes behind = put_block id (a_definition of_bytes (a_short_record 4 1 bytes no_more)) behind

-- ---- the texts of a module, in the order of its records

-- names and numbers in a body: parameters, and then each block before its results
abbrev pub names_of_body : Function → List Block → List LocalName
names_of_body f blocks = parameter_names f ++ flat_map (λ b. b.name ∷ results b) blocks

-- the names alone, where there is a body
abbrev pub texts_of_body : Function → List Bytes
texts_of_body f = flat_map (λ blocks. filter_map name_in (names_of_body f blocks)) (option_to_list f.body)

-- texts and names, as often as they are written
abbrev pub texts_of : Module → List Bytes
texts_of m =
    option_to_list m.source ++ option_to_list m.layout ++ option_to_list m.triple ++ map (λ s. s.0) m.structs
    ++ map (λ v. v.name) m.variables ++ map (λ f. f.name) m.functions ++ map (λ a. a.name) m.aliases ++ flat_map texts_of_body m.functions

-- the bytes of the table
abbrev pub string_table : Module → Bytes
string_table m = joined (once_each (texts_of m))

-- how texts stand in the records of a module
abbrev pub texts_in : Module → Texts
texts_in m = in_table_of (texts_of m)

-- ---- the block of the module

-- what indices stand for in a module
abbrev pub numbering : Module → Numbering
numbering m = let targets = map (λ v. v.name) m.variables ++ map (λ f. f.name) m.functions in
    record { types = mentioned m; structs = m.structs; targets = targets; globals = targets ++ map (λ a. a.name) m.aliases; values = []; blocks = [] }

-- a record of a text, where there is one
abbrev pub text_line : Texts → ℕ → Option Bytes → List Line
text_line texts code text = map (λ t. (code, texts.last.spell t)) (option_to_list text)

-- VERSION and the texts
abbrev pub head_lines : Texts → Module → List Line
head_lines texts m = (1, version.spell texts.version) ∷ text_line texts 2 m.source ++ text_line texts 3 m.layout ++ text_line texts 4 m.triple

-- the records of variables, functions and aliases
abbrev pub global_lines : Texts → Module → List Line
global_lines texts m =
    map (λ v. (5, (variable texts (numbering m)).spell v)) m.variables
    ++ map (λ f. (6, (function texts (numbering m)).spell (is_some f.body, f))) m.functions
    ++ map (λ a. (7, (alias texts (numbering m)).spell a)) m.aliases

-- what stands in the block of the module, where texts stand so
abbrev pub put_module : Texts → Module → Written
put_module texts m =
    put (head_lines texts m)
    (put_block types_id (put (type_lines texts (mentioned m) m) no_more)
    (put (global_lines texts m) (put_bodies (filter_map (body_of texts (numbering m)) m.functions) no_more)))

-- what is written: the producer, the string table and the module
abbrev pub written_module : Module → Written
written_module m = put_bytes producer_id producer (put_bytes table_id (string_table m) (put_block module_id (put_module (texts_in m) m) no_more))

-- the bytes that are written
abbrev pub spelling : Module → List ℕ
spelling m = let bits = (written begun (written_module m)).bits in bytes_of (length bits / 8) bits

-- the blocks and records of what is written, where no abbreviation has a blob
abbrev pub records_put : Written → Records
records_put no_more = nothing_more
records_put (a_block id width inside behind) = but_for_info id (records_put inside) (records_put behind)
records_put (a_definition ops behind) = records_put behind
records_put (a_record code operands behind) = one_record code operands (records_put behind)
records_put (a_short_record id code operands behind) = one_record code operands (records_put behind)

-- What is written spells the module and no other. That is promised of a well-formed and valid module whose spelling has
-- fewer than 2^32 words
abbrev pub IsSpelledAlone : Module → Type 0
IsSpelledAlone m = (n : Module) → Spells (spelling m) n ↔ (n ≡ m)
