-- Says how the code reads: when the ids of an instruction are those of the arena.
use Rattle.std.specs.Prelude.{All, ⊤, Option, Some, None}
use Rattle.module_arena.specs.declared.entry.Block.{Block}
use Rattle.module_arena.specs.declared.instruction.Call.{Call}
use Rattle.module_arena.specs.declared.instruction.Case.{Case}
use Rattle.module_arena.specs.declared.instruction.Choice.{Choice}
use Rattle.module_arena.specs.declared.instruction.Ending.{Ending}
use Rattle.module_arena.specs.declared.instruction.Ending.TheVariants as ending
use Rattle.module_arena.specs.declared.instruction.Insertion.{Insertion}
use Rattle.module_arena.specs.declared.instruction.Inst.{Inst}
use Rattle.module_arena.specs.declared.instruction.Inst.TheVariants as inst
use Rattle.module_arena.specs.declared.instruction.Operand.{Operand}
use Rattle.module_arena.specs.declared.instruction.Signature.{Signature}
use Rattle.module_arena.specs.Lists.{Lists}
use Rattle.record_write.specs.Order.Written.{KnowsType, KnowsConstant, KnowsValue, KnowsOperand}

module _ (a : Lists) where
  -- those of a function type
  abbrev pub KnowsSignature : Signature → Type 0
  KnowsSignature s = KnowsType a s.returns × All (KnowsType a) s.parameters

  -- those of a `select`
  abbrev pub KnowsChoice : Choice → Type 0
  KnowsChoice c = KnowsOperand a c.condition × KnowsOperand a c.first × KnowsOperand a c.second

  -- those of a `call`
  abbrev pub KnowsCall : Call → Type 0
  KnowsCall c = KnowsSignature c.signature × KnowsValue a c.callee × All (KnowsOperand a) c.arguments

  -- those of an `insertvalue`
  abbrev pub KnowsInsertion : Insertion → Type 0
  KnowsInsertion i = KnowsOperand a i.aggregate × KnowsOperand a i.part

  -- those of how many an `alloca` makes
  abbrev pub KnowsCount : Option Operand → Type 0
  KnowsCount None = ⊤
  KnowsCount (Some o) = KnowsOperand a o

  -- those of an instruction
  abbrev pub KnowsInst : Inst → Type 0
  KnowsInst (inst.Binary opcode flags result left right) = KnowsOperand a left × KnowsValue a right
  KnowsInst (inst.Compare flags predicate result left right) = KnowsOperand a left × KnowsValue a right
  KnowsInst (inst.Convert opcode flags result operand to) = KnowsOperand a operand × KnowsType a to
  KnowsInst (inst.Select result choice) = KnowsChoice choice
  KnowsInst (inst.Freeze result operand) = KnowsOperand a operand
  KnowsInst (inst.Phi result ty incoming) = KnowsType a ty × All (λ i. KnowsValue a i.value) incoming
  KnowsInst (inst.Load flags result ty address alignment) = KnowsType a ty × KnowsOperand a address
  KnowsInst (inst.Store flags stored address alignment) = KnowsOperand a stored × KnowsOperand a address
  KnowsInst (inst.Alloca result ty count alignment) = KnowsType a ty × KnowsCount count
  KnowsInst (inst.GetElementPtr flags result source base indices) = KnowsType a source × KnowsOperand a base × All (KnowsOperand a) indices
  KnowsInst (inst.Call call) = KnowsCall call
  KnowsInst (inst.ExtractValue result aggregate indices) = KnowsOperand a aggregate
  KnowsInst (inst.InsertValue result insertion) = KnowsInsertion insertion

  -- those of a case
  abbrev pub KnowsCase : Case → Type 0
  KnowsCase c = KnowsType a c.ty × KnowsConstant a c.value

  -- those of an end
  abbrev pub KnowsEnding : Ending → Type 0
  KnowsEnding ending.ReturnVoid = ⊤
  KnowsEnding (ending.Return operand) = KnowsOperand a operand
  KnowsEnding (ending.Jump target) = ⊤
  KnowsEnding (ending.Branch condition then_to else_to) = KnowsOperand a condition
  KnowsEnding (ending.Switch operand otherwise cases) = KnowsOperand a operand × All KnowsCase cases
  KnowsEnding ending.Unreachable = ⊤

  -- those of a block
  abbrev pub KnowsBlock : Block → Type 0
  KnowsBlock b = All KnowsInst b.instructions × KnowsEnding b.end
