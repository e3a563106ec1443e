-- Modules that are well formed and valid, by computation.
use Rattle.std.specs.Prelude.{◌≡◌, ℕ, true, [], ◌∷◌, Some, None, codes}
use Rattle.std.proofs.Common.{refl}
use Rattle.ir_tables.specs.declared.opcode.Opcode.TheVariants as opcode
use Rattle.ir_tables.specs.declared.predicate.Predicate.TheVariants as predicate
use Rattle.type_table.specs.Tree.{int, ptr}
use Rattle.module_arena.specs.Module.{Bytes, LocalName, Module, Instruction, Value}
use Rattle.module_arena.specs.Module.LocalName.{Named, Numbered}
use Rattle.module_arena.specs.Module.Value.{Local}
use Rattle.module_arena.specs.Module.Operation.{BinaryOperation, Compare, Phi, Load, Store, Alloca}
use Rattle.module_arena.specs.Module.Ending.{Return, Jump, Branch}
use Rattle.module_arena.proofs.RowModules.{of_functions, defined, block, numbered, called, from, bare, operand, number}
use Rattle.ir_tables.specs.MayHave.{may_have}
use Rattle.module_arena.specs.Paths.{reached_within}
use Rattle.module_arena.proofs.WellFormedTest.{told}
use Rattle.module_arena.specs.WellFormed.{IsWellFormed}

abbrev local : ℕ → Value
local n = Local (Numbered n)

abbrev variable_slot : ℕ → Instruction
variable_slot n = numbered n (Alloca (int 32) None (Some 4))

abbrev stored : Value → ℕ → Instruction
stored value slot = bare (Store 0 (operand (int 32) value) (operand ptr (local slot)) (Some 4))

abbrev loaded : ℕ → ℕ → Instruction
loaded n slot = numbered n (Load 0 (int 32) (operand ptr (local slot)) (Some 4))

-- a sum loop as clang prints it
abbrev pub sum_loop : Module
sum_loop = record (of_functions (defined (int 32) (codes "main") [] (
    block (Numbered 0) (variable_slot 1 ∷ variable_slot 2 ∷ variable_slot 3 ∷ stored (number 0) 1 ∷ stored (number 0) 2 ∷ stored (number 0) 3 ∷ []) (Jump (Numbered 4))
    ∷ block (Numbered 4) (loaded 5 3 ∷ numbered 6 (Compare 0 predicate.Slt (operand (int 32) (local 5)) (number 5)) ∷ []) (Branch (operand (int 1) (local 6)) (Numbered 7) (Numbered 14))
    ∷ block (Numbered 7) (loaded 8 3 ∷ loaded 9 2 ∷ numbered 10 (BinaryOperation opcode.Add 2 (operand (int 32) (local 9)) (local 8)) ∷ stored (local 10) 2 ∷ []) (Jump (Numbered 11))
    ∷ block (Numbered 11) (loaded 12 3 ∷ numbered 13 (BinaryOperation opcode.Add 2 (operand (int 32) (local 12)) (number 1)) ∷ stored (local 13) 3 ∷ []) (Jump (Numbered 4))
    ∷ block (Numbered 14) (loaded 15 2 ∷ []) (Return (operand (int 32) (local 15)))
    ∷ []) ∷ [])) {
      source = Some (codes "sum.c");
      layout = Some (codes "e-m:e-p270:32:32-p271:32:32-p272:64:64-i64:64-i128:128-f80:128-n8:16:32:64-S128");
      triple = Some (codes "x86_64-unknown-linux-gnu");
    }

sum_loop_is_valid : told sum_loop ≡ (true, None)
unfolding reached_within may_have
sum_loop_is_valid = refl

sum_loop_is_well_formed : IsWellFormed sum_loop
unfolding may_have
sum_loop_is_well_formed = record {
  texts = refl;
  few = refl;
  struct_names = refl;
  global_names = refl;
  structs = refl;
  variables = refl;
  aliases = refl;
  functions = refl;
  constants = refl;
}

-- ---- phis that take each other's values, each used at the end of the block that it comes from

abbrev name : Bytes → LocalName
name n = Named n

abbrev swapped : Module
swapped = of_functions (defined (int 32) (codes "main") [] (
    block (Numbered 0) [] (Jump (name (codes "l")))
    ∷ block (name (codes "l")) (
    called (codes "a") (Phi (int 32) (from (Numbered 0) (number 11) ∷ from (name (codes "l")) (Local (name (codes "b"))) ∷ []))
    ∷ called (codes "b") (Phi (int 32) (from (Numbered 0) (number 22) ∷ from (name (codes "l")) (Local (name (codes "a"))) ∷ []))
    ∷ called (codes "i") (Phi (int 32) (from (Numbered 0) (number 0) ∷ from (name (codes "l")) (Local (name (codes "j"))) ∷ []))
    ∷ called (codes "j") (BinaryOperation opcode.Add 0 (operand (int 32) (Local (name (codes "i")))) (number 1))
    ∷ called (codes "c") (Compare 0 predicate.Eq (operand (int 32) (Local (name (codes "j")))) (number 3))
    ∷ []) (Branch (operand (int 1) (Local (name (codes "c")))) (name (codes "e")) (name (codes "l")))
    ∷ block (name (codes "e")) [] (Return (operand (int 32) (Local (name (codes "a")))))
    ∷ []) ∷ [])

swapped_is_valid : told swapped ≡ (true, None)
unfolding reached_within
swapped_is_valid = refl
