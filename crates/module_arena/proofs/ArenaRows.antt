-- The arenas of small modules, written by hand: what they stand for, by computation.
use Rattle.std.specs.Prelude.{◌≡◌, ℕ, false, List, [], ◌∷◌, Some, None, codes}
use Rattle.std.proofs.Common.{refl}
use Rattle.ir_tables.specs.declared.linkage.Linkage.TheVariants.{External}
use Rattle.ir_tables.specs.declared.opcode.Opcode.TheVariants as opcode
use Rattle.ir_tables.specs.declared.predicate.Predicate.TheVariants as predicate
use Rattle.type_table.specs.Tree.{int, ptr}
use Rattle.type_table.specs.declared.ir_type.IrType.TheVariants as type
use Rattle.module_arena.specs.declared.constant.Const.TheVariants as const
use Rattle.module_arena.specs.declared.entry.Block.{Block}
use Rattle.module_arena.specs.declared.entry.GlobalId.TheVariants as global
use Rattle.module_arena.specs.declared.entry.LocalName.{LocalName}
use Rattle.module_arena.specs.declared.entry.LocalName.TheVariants.{Numbered}
use Rattle.module_arena.specs.declared.instruction.Ending.{Ending}
use Rattle.module_arena.specs.declared.instruction.Ending.TheVariants as ending
use Rattle.module_arena.specs.declared.instruction.Inst.{Inst}
use Rattle.module_arena.specs.declared.instruction.Inst.TheVariants as inst
use Rattle.module_arena.specs.declared.instruction.Operand.{Operand}
use Rattle.module_arena.specs.declared.instruction.Value.{Value}
use Rattle.module_arena.specs.declared.instruction.Value.TheVariants.{Local, Known}
use Rattle.module_arena.specs.Module.{Constant, empty_module}
use Rattle.module_arena.proofs.RowModules.{global as variable, of_variables}
use Rattle.module_arena.proofs.ValidRows.{sum_loop}
use Rattle.module_arena.specs.Lists.{Lists, no_lists}
use Rattle.module_arena.specs.View.{module_of}

-- @x = global i32 7 and @p = global ptr @x
abbrev pub two_variables : Lists
two_variables = record no_lists {
  table = record { types = type.Int 32 ∷ type.Ptr ∷ []; structs = [] };
  constants = const.Integer 7 ∷ const.Address (global.Variable 0) ∷ [];
  variables =
      record { name = 120 ∷ []; linkage = External; constant = false; ty = 0; alignment = None; initialiser = Some 0 }
      ∷ record { name = 112 ∷ []; linkage = External; constant = false; ty = 1; alignment = None; initialiser = Some 1 }
      ∷ [];
}

pub two_variables_row : module_of two_variables ≡ of_variables (variable (120 ∷ []) (int 32) (Constant.Integer 7) ∷ variable (112 ∷ []) ptr (Constant.Address (120 ∷ [])) ∷ [])
unfolding module_of
two_variables_row = refl

pub empty_row : module_of no_lists ≡ empty_module
unfolding module_of
empty_row = refl

-- ---- the sum loop that clang prints: types 0 to 2 are i32, ptr and i1, and constants 0 to 2 are 0, 5 and 1

abbrev at : ℕ → Value → Operand
at ty value = record { ty = ty; value = value }

abbrev slot : ℕ → Inst
slot value = inst.Alloca value 0 None (Some 4)

abbrev stored : Value → ℕ → Inst
stored value address = inst.Store 0 (at 0 value) (at 1 (Local address)) (Some 4)

abbrev loaded : ℕ → ℕ → Inst
loaded value address = inst.Load 0 value 0 (at 1 (Local address)) (Some 4)

abbrev block : ℕ → List Inst → Ending → Block
block number instructions end = record { name = Numbered number; instructions = instructions; end = end }

abbrev numbers : List LocalName
numbers =
    Numbered 1 ∷ Numbered 2 ∷ Numbered 3 ∷ Numbered 5 ∷ Numbered 6 ∷ Numbered 8 ∷ Numbered 9 ∷ Numbered 10 ∷ Numbered 12 ∷ Numbered 13
    ∷ Numbered 15 ∷ []

abbrev blocks : List Block
blocks =
    block 0 (slot 0 ∷ slot 1 ∷ slot 2 ∷ stored (Known 0) 0 ∷ stored (Known 0) 1 ∷ stored (Known 0) 2 ∷ []) (ending.Jump 1)
    ∷ block 4 (loaded 3 2 ∷ inst.Compare 0 predicate.Slt 4 (at 0 (Local 3)) (Known 1) ∷ []) (ending.Branch (at 2 (Local 4)) 2 4)
    ∷ block 7 (loaded 5 2 ∷ loaded 6 1 ∷ inst.Binary opcode.Add 2 7 (at 0 (Local 6)) (Local 5) ∷ stored (Local 7) 1 ∷ []) (ending.Jump 3)
    ∷ block 11 (loaded 8 2 ∷ inst.Binary opcode.Add 2 9 (at 0 (Local 8)) (Known 2) ∷ stored (Local 9) 2 ∷ []) (ending.Jump 1)
    ∷ block 14 (loaded 10 1 ∷ []) (ending.Return (at 0 (Local 10)))
    ∷ []

abbrev sum_arena : Lists
sum_arena = record no_lists {
  source = Some (codes "sum.c");
  layout = Some (codes "e-m:e-p270:32:32-p271:32:32-p272:64:64-i64:64-i128:128-f80:128-n8:16:32:64-S128");
  triple = Some (codes "x86_64-unknown-linux-gnu");
  table = record { types = type.Int 32 ∷ type.Ptr ∷ type.Int 1 ∷ []; structs = [] };
  constants = const.Integer 0 ∷ const.Integer 5 ∷ const.Integer 1 ∷ [];
  functions =
      record {
        name = codes "main";
        linkage = External;
        result = 0;
        parameters = [];
        variadic = false;
        body = Some (record { blocks = blocks; results = numbers });
      }
      ∷ [];
}

sum_arena_row : module_of sum_arena ≡ sum_loop
unfolding module_of
sum_arena_row = refl
