-- Worked rows: whole modules, both ways, and what is refused in a body.
use Rattle.std.specs.Prelude.{◌≡◌, refl, ℕ, false, List, [], ◌∷◌, Some, None, Ok, codes}
use Rattle.ir_tables.specs.declared.opcode.Opcode.TheVariants as op
use Rattle.ir_tables.specs.declared.linkage.Linkage.TheVariants.{External, Internal}
use Rattle.type_table.specs.Tree.{int, ptr}
use Rattle.module_arena.specs.Module.{Module, Named, Numbered, Value, Local, Known, Integer, Address, Load, BinaryOperation, Return}
use Rattle.record_table.specs.Faults.{BadRecord, UnknownRecord, Records, no_more, a_block}
use Rattle.record_table.specs.Records.{read}
use Rattle.record_table.specs.Spelling.{written_module, records_put}
use Rattle.record_table.proofs.Rows.{computed, only, ours, refused, of_types, lines}

abbrev const : ℕ → Value
const n = Known (Integer n)

-- @g = internal global i32 5, align 4
-- define i32 @f(i32 %x) {
-- 0:
--   %1 = load i32, ptr @g, align 4
--   %2 = add nsw i32 %1, %x
--   ret i32 %2
-- }
abbrev the_module : Module
the_module = record {
  source = Some (codes "a");
  layout = None;
  triple = None;
  structs = [];
  aliases = [];
  variables = record { name = codes "g"; linkage = Internal; constant = false; ty = int 32; alignment = Some 4; initialiser = Some (Integer 5) } ∷ [];
  functions = record {
    name = codes "f";
    linkage = External;
    returns = int 32;
    parameters = record { ty = int 32; name = Named (codes "x") } ∷ [];
    variadic = false;
    body = Some (record {
      name = Numbered 0;
      instructions =
          record { result = Some (Numbered 1); operation = Load 0 (int 32) (record { ty = ptr; value = Known (Address (codes "g")) }) (Some 4) }
          ∷ record { result = Some (Numbered 2); operation = BinaryOperation op.Add 2 (record { ty = int 32; value = Local (Numbered 1) }) (Local (Named (codes "x"))) } ∷ [];
      ending = Return (record { ty = int 32; value = Local (Numbered 2) });
    } ∷ []);
  } ∷ [];
}

-- its blocks and records in version 1
abbrev the_records_of_1 : Records
the_records_of_1 = ours (a_block 8 (lines ((1, 1 ∷ []) ∷ (2, 97 ∷ []) ∷ [])
    (a_block 17 (only ((1, 32 ∷ []) ∷ (2, []) ∷ []))
    (lines ((5, 1 ∷ 103 ∷ 2 ∷ 0 ∷ 0 ∷ 3 ∷ 1 ∷ 1 ∷ 5 ∷ []) ∷ (6, 1 ∷ 102 ∷ 0 ∷ 1 ∷ 0 ∷ 0 ∷ 1 ∷ 0 ∷ []) ∷ [])
    (a_block 12 (only ((1, 2 ∷ 120 ∷ []) ∷ (2, 0 ∷ []) ∷ (33, 0 ∷ 0 ∷ 0 ∷ 6 ∷ 0 ∷ 3 ∷ []) ∷ (11, 0 ∷ 2 ∷ 0 ∷ 0 ∷ 1 ∷ 0 ∷ 0 ∷ []) ∷ (40, 1 ∷ 0 ∷ 0 ∷ 2 ∷ []) ∷ []))
    no_more)))) no_more)

version_1_is_read : read the_records_of_1 ≡ Ok the_module
unfolding computed
version_1_is_read = refl

-- and in version 2: the texts are agfx
abbrev the_records : Records
the_records = ours (a_block 23 (only ((1, codes "agfx") ∷ [])) (a_block 8 (lines ((1, 2 ∷ []) ∷ (2, 0 ∷ 1 ∷ []) ∷ [])
    (a_block 17 (only ((1, 32 ∷ []) ∷ (2, []) ∷ []))
    (lines ((5, 1 ∷ 1 ∷ 2 ∷ 0 ∷ 0 ∷ 3 ∷ 1 ∷ 1 ∷ 5 ∷ []) ∷ (6, 2 ∷ 1 ∷ 0 ∷ 1 ∷ 0 ∷ 0 ∷ 1 ∷ 0 ∷ []) ∷ [])
    (a_block 12 (only ((1, 2 ∷ 3 ∷ []) ∷ (2, 0 ∷ []) ∷ (33, 0 ∷ 0 ∷ 0 ∷ 6 ∷ 0 ∷ 3 ∷ []) ∷ (11, 0 ∷ 2 ∷ 0 ∷ 0 ∷ 1 ∷ 0 ∷ 0 ∷ []) ∷ (40, 1 ∷ 0 ∷ 0 ∷ 2 ∷ []) ∷ []))
    no_more)))) no_more))

it_is_spelled : records_put (written_module the_module) ≡ the_records
unfolding computed
it_is_spelled = refl

it_is_read : read the_records ≡ Ok the_module
unfolding computed
it_is_read = refl

-- void @f(), defined by this body
abbrev pub with_body : List (ℕ × List ℕ) → Records
with_body body = of_types ((3, []) ∷ []) ((6, 1 ∷ 102 ∷ 0 ∷ 1 ∷ 0 ∷ 0 ∷ 0 ∷ []) ∷ []) (a_block 12 (only body) no_more)

accepted : refused (with_body ((1, []) ∷ (2, 0 ∷ []) ∷ (40, 0 ∷ []) ∷ [])) ≡ None
unfolding computed
accepted = refl

-- the end is missing
no_end : refused (with_body ((1, []) ∷ (2, 0 ∷ []) ∷ [])) ≡ Some (BadRecord 12 6 5)
unfolding computed
no_end = refl

-- a block begins before the one in front has ended, and a line stands behind an end
block_too_early : refused (with_body ((1, []) ∷ (2, 0 ∷ []) ∷ (2, 0 ∷ []) ∷ (40, 0 ∷ []) ∷ [])) ≡ Some (BadRecord 12 6 5)
unfolding computed
block_too_early = refl

line_too_late : refused (with_body ((1, []) ∷ (2, 0 ∷ []) ∷ (40, 0 ∷ []) ∷ (40, 0 ∷ []) ∷ [])) ≡ Some (BadRecord 12 7 5)
unfolding computed
line_too_late = refl

-- a branch to a block that stands behind it, and to one that stands nowhere
block_behind : refused (with_body ((1, []) ∷ (2, 0 ∷ []) ∷ (41, 0 ∷ 1 ∷ []) ∷ (2, 0 ∷ []) ∷ (40, 0 ∷ []) ∷ [])) ≡ None
unfolding computed
block_behind = refl

block_nowhere : refused (with_body ((1, []) ∷ (2, 0 ∷ []) ∷ (41, 0 ∷ 1 ∷ []) ∷ [])) ≡ Some (BadRecord 12 6 2)
unfolding computed
block_nowhere = refl

-- two blocks of one name
same_name : refused (with_body ((1, []) ∷ (2, 2 ∷ 97 ∷ []) ∷ (41, 0 ∷ 1 ∷ []) ∷ (2, 2 ∷ 97 ∷ []) ∷ (40, 0 ∷ []) ∷ [])) ≡ Some (BadRecord 12 7 4)
unfolding computed
same_name = refl

unknown_opcode : refused (with_body ((1, []) ∷ (2, 0 ∷ []) ∷ (44, []) ∷ [])) ≡ Some (UnknownRecord 12 44)
unfolding computed
unknown_opcode = refl

-- a body is missing
no_body : refused (of_types ((3, []) ∷ []) ((6, 1 ∷ 102 ∷ 0 ∷ 1 ∷ 0 ∷ 0 ∷ 0 ∷ []) ∷ []) no_more) ≡ Some (BadRecord 12 4 5)
unfolding computed
no_body = refl
