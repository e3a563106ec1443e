-- Worked rows: the order of records and types, and what is refused out of order.
use Rattle.std.specs.Prelude.{◌≡◌, refl, ℕ, true, false, List, [], ◌∷◌, Some, None, codes}
use Rattle.bit_tree.specs.Stream as stream
use Rattle.ir_tables.specs.declared.opcode.Opcode.TheVariants as op
use Rattle.type_table.specs.Tree.{int, named, no_trees, more_trees, fields}
use Rattle.module_arena.specs.Module.{Module, empty_module}
use Rattle.record_table.specs.Fields.{version_1}
use Rattle.record_table.specs.Lines.{instruction}
use Rattle.record_table.specs.Faults.{BadRecord, Records, no_more, a_block}
use Rattle.record_table.specs.Records.{record_fault, producer}
use Rattle.record_table.specs.Mentions.{mentioned}
use Rattle.record_table.proofs.Rows.{computed, only, ours, refused, of_types, lines}
use Rattle.record_table.proofs.RuleRows.{k, broken}
use Rattle.record_table.proofs.ModuleRows.{with_body}

-- %A = type { %B }, %B = type { i32 }: a type that names a struct has no parts there
abbrev of_structs : Module
of_structs = record empty_module { structs = (codes "A", fields false (more_trees (named (codes "B")) no_trees)) ∷ (codes "B", fields false (more_trees (int 32) no_trees)) ∷ [] }

struct_before_its_fields : mentioned of_structs ≡ named (codes "B") ∷ int 32 ∷ []
struct_before_its_fields = refl

-- a second VERSION is out of order, whatever its number
second_version : refused (ours (a_block 8 (only ((1, 1 ∷ []) ∷ (1, 3 ∷ []) ∷ [])) no_more)) ≡ Some (BadRecord 8 2 5)
unfolding computed
second_version = refl

-- and so is a second record of the producer, whatever its name
second_producer : refused (a_block 13 (only ((1, producer) ∷ (1, codes "integer profile 2") ∷ [])) no_more) ≡ Some (BadRecord 13 1 5)
unfolding computed
second_producer = refl

short_producer : refused (a_block 13 (only ((1, producer) ∷ (1, codes "integer") ∷ [])) no_more) ≡ Some (BadRecord 13 1 1)
unfolding computed
short_producer = refl

-- a block where none may stand is told by its own id
types_in_producer : refused (a_block 13 (lines ((1, producer) ∷ []) (a_block 17 no_more no_more)) no_more) ≡ Some (BadRecord 17 1 5)
unfolding computed
types_in_producer = refl

types_before_version : refused (ours (a_block 8 (a_block 17 no_more no_more) no_more)) ≡ Some (BadRecord 17 1 5)
unfolding computed
types_before_version = refl

types_twice : refused (ours (a_block 8 (lines ((1, 1 ∷ []) ∷ []) (a_block 17 no_more (a_block 17 no_more no_more))) no_more)) ≡ Some (BadRecord 17 2 5)
unfolding computed
types_twice = refl

source_before_version : refused (ours (a_block 8 (only ((2, 65 ∷ []) ∷ [])) no_more)) ≡ Some (BadRecord 8 1 5)
unfolding computed
source_before_version = refl

-- before the block of types no type is known, and that is the least rule that is broken
variable_before_types : refused (ours (a_block 8 (only ((1, 1 ∷ []) ∷ (5, 1 ∷ 120 ∷ 0 ∷ 0 ∷ 0 ∷ 0 ∷ 0 ∷ []) ∷ [])) no_more)) ≡ Some (BadRecord 8 2 2)
unfolding computed
variable_before_types = refl

opaque_with_fields : refused (of_types ((1, 8 ∷ []) ∷ (7, 2 ∷ 1 ∷ 0 ∷ 120 ∷ []) ∷ []) [] no_more) ≡ Some (BadRecord 17 3 3)
unfolding computed
opaque_with_fields = refl

-- an index of 33 bits
wide_index : broken (instruction version_1 k 3 op.ExtractValue) (0 ∷ 6 ∷ 0 ∷ 0 ∷ 1 ∷ 0x1_0000_0000 ∷ []) ≡ Some 3
unfolding computed
wide_index = refl

second_parameters : refused (with_body ((1, []) ∷ (1, []) ∷ (2, 0 ∷ []) ∷ (40, 0 ∷ []) ∷ [])) ≡ Some (BadRecord 12 5 5)
unfolding computed
second_parameters = refl

-- void @f(i32, i32), whose parameters have these names
abbrev with_parameters : List ℕ → Records
with_parameters names = of_types ((3, []) ∷ (1, 32 ∷ []) ∷ []) ((6, 1 ∷ 102 ∷ 0 ∷ 1 ∷ 0 ∷ 0 ∷ 2 ∷ 1 ∷ 1 ∷ []) ∷ []) (a_block 12 (only ((1, names) ∷ (2, 0 ∷ []) ∷ (40, 0 ∷ []) ∷ [])) no_more)

two_names : refused (with_parameters (2 ∷ 97 ∷ 0 ∷ [])) ≡ None
unfolding computed
two_names = refl

one_name : refused (with_parameters (2 ∷ 97 ∷ [])) ≡ Some (BadRecord 12 5 1)
unfolding computed
one_name = refl

one_name_twice : refused (with_parameters (2 ∷ 97 ∷ 2 ∷ 97 ∷ [])) ≡ Some (BadRecord 12 5 4)
unfolding computed
one_name_twice = refl

-- void @f() with two bodies
two_bodies : refused (of_types ((3, []) ∷ []) ((6, 1 ∷ 102 ∷ 0 ∷ 1 ∷ 0 ∷ 0 ∷ 0 ∷ []) ∷ []) (a_block 12 (only ((1, []) ∷ (2, 0 ∷ []) ∷ (40, 0 ∷ []) ∷ [])) (a_block 12 no_more no_more))) ≡ Some (BadRecord 12 7 5)
unfolding computed
two_bodies = refl

block_in_body : refused (of_types ((3, []) ∷ []) ((6, 1 ∷ 102 ∷ 0 ∷ 1 ∷ 0 ∷ 0 ∷ 0 ∷ []) ∷ []) (a_block 12 (a_block 12 no_more no_more) no_more)) ≡ Some (BadRecord 12 4 5)
unfolding computed
block_in_body = refl

-- a blob behind operands is passed over
with_blob : record_fault (stream.block 13 3 0 (stream.values 4 1 producer true (0 ∷ 1 ∷ []) stream.nothing) stream.nothing) ≡ Some (BadRecord 8 1 5)
unfolding computed
with_blob = refl
