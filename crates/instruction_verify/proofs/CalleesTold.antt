-- What instructions call, and which state an alignment.
use Rattle.std.proofs.Common.{◌≡◌, ℕ, true, ◌||◌, List, Option, Some, None, refl}
use Rattle.type_table.specs.Tree.{ptr}
use Rattle.module_arena.specs.Changes.{constant_in}
use Rattle.module_arena.specs.EntryRules.{takes_no_intrinsic}
use Rattle.module_arena.specs.InstructionRules.{callee_takes_no_intrinsic, operation_alignment_suits}
use Rattle.module_arena.specs.Lists.{Lists}
use Rattle.module_arena.specs.Module.{LocalName, Module}
use Rattle.module_arena.specs.Module.Value.{Known}
use Rattle.module_arena.specs.Operations.{callee}
use Rattle.module_arena.specs.declared.constant.Const as the_const
use Rattle.module_arena.specs.declared.constant.Const.TheVariants as const
use Rattle.module_arena.specs.declared.instruction.Call.{Call}
use Rattle.module_arena.specs.declared.instruction.Operand.{Operand}
use Rattle.module_arena.specs.declared.instruction.Inst as the_inst
use Rattle.module_arena.specs.declared.instruction.Inst.TheVariants as inst
use Rattle.instruction_verify.specs.ArenaOperands.{instruction_in}
use Rattle.instruction_verify.specs.Parts.{is_address}

module _ (a : Lists) (values blocks : List LocalName) where
  pub no_callee : (i : the_inst.Inst) → ((call : Call) → i ≡ inst.Call call → ⊥) → None ≡ callee (instruction_in a values blocks i).operation
  no_callee (inst.Binary opcode flags result left right) o = refl
  no_callee (inst.Compare flags predicate result left right) o = refl
  no_callee (inst.Convert opcode flags result operand to) o = refl
  no_callee (inst.Select result choice) o = refl
  no_callee (inst.Freeze result operand) o = refl
  no_callee (inst.Phi result ty incoming) o = refl
  no_callee (inst.Load flags result ty address alignment) o = refl
  no_callee (inst.Store flags stored address alignment) o = refl
  no_callee (inst.Alloca result ty count alignment) o = refl
  no_callee (inst.GetElementPtr flags result source base indices) o = refl
  no_callee (inst.Call call) o = absurd (o call refl)
  no_callee (inst.ExtractValue result aggregate indices) o = refl
  no_callee (inst.InsertValue result insertion) o = refl

  pub no_alignment : (i : the_inst.Inst) → ((flags result ty : ℕ) (address : Operand) (alignment : Option ℕ) → i ≡ inst.Load flags result ty address alignment → ⊥) → ((flags : ℕ) (stored address : Operand) (alignment : Option ℕ) → i ≡ inst.Store flags stored address alignment → ⊥) → ((result ty : ℕ) (count : Option Operand) (alignment : Option ℕ) → i ≡ inst.Alloca result ty count alignment → ⊥) → true ≡ operation_alignment_suits (instruction_in a values blocks i).operation
  no_alignment (inst.Binary opcode flags result left right) o p q = refl
  no_alignment (inst.Compare flags predicate result left right) o p q = refl
  no_alignment (inst.Convert opcode flags result operand to) o p q = refl
  no_alignment (inst.Select result choice) o p q = refl
  no_alignment (inst.Freeze result operand) o p q = refl
  no_alignment (inst.Phi result ty incoming) o p q = refl
  no_alignment (inst.Load flags result ty address alignment) o p q = absurd (o flags result ty address alignment refl)
  no_alignment (inst.Store flags stored address alignment) o p q = absurd (p flags stored address alignment refl)
  no_alignment (inst.Alloca result ty count alignment) o p q = absurd (q result ty count alignment refl)
  no_alignment (inst.GetElementPtr flags result source base indices) o p q = refl
  no_alignment (inst.Call call) o p q = refl
  no_alignment (inst.ExtractValue result aggregate indices) o p q = refl
  no_alignment (inst.InsertValue result insertion) o p q = refl

-- a constant that is called
pub called_constant : (m : Module) (a : Lists) (k : the_const.Const) → (is_address k || takes_no_intrinsic m ptr (constant_in a k)) ≡ callee_takes_no_intrinsic m (Some (Known (constant_in a k)))
called_constant m a (const.Integer n) = refl
called_constant m a (const.Truth b) = refl
called_constant m a const.Null = refl
called_constant m a const.Undef = refl
called_constant m a const.Poison = refl
called_constant m a const.ZeroInitializer = refl
called_constant m a (const.Address g) = refl
called_constant m a (const.ByteString bytes) = refl
called_constant m a (const.Aggregate round es) = refl
called_constant m a (const.ElementAddress f address) = refl
called_constant m a (const.Cast opcode x to) = refl
called_constant m a (const.Binary opcode f pair) = refl
