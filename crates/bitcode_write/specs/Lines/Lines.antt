-- For `put_instruction`, `put_ending`, `instruction_opcode` and `ending_opcode`: the lines of a body by the ids of an
-- arena, and what must hold of them to be spelled as they are.
use Rattle.std.specs.Prelude.{◌<◌, length, map, All, IfSome}
use Rattle.std.specs.Option.{option_map}
use Rattle.type_table.specs.Types.{trees}
use Rattle.module_arena.specs.declared.entry.Function.{Function}
use Rattle.module_arena.specs.declared.instruction.Call.{Call}
use Rattle.module_arena.specs.declared.instruction.Inst.{Inst}
use Rattle.module_arena.specs.declared.instruction.Inst.TheVariants as inst
use Rattle.module_arena.specs.TypeTests.{is_void}
use Rattle.module_arena.specs.declared.instruction.Ending as the_ending
pub use Rattle.module_arena.specs.FunctionView.{instruction_of, ending_of}
use Rattle.module_arena.specs.FunctionView.{values_in, labels_in}
use Rattle.module_arena.specs.Known.{HasOperand}
use Rattle.module_arena.specs.Lists.{Lists, value_names, function_blocks}
use Rattle.module_arena.specs.Mentions.{end_operands_of, targets_of}
use Rattle.module_arena.specs.View.{constants_of, value_name}
use Rattle.record_table.specs.Standing.{HasCode, CallResultStands, InstructionStands, EndingStands}
use Rattle.record_write.specs.Operands.Wide.{IsBody, HasValueAt, HasOperandIn, HasIncomingIn, AreArgumentsIn}
use Rattle.type_table.specs.Tree.{int, ptr}
use Rattle.type_table.specs.Types.{tree}
use Rattle.module_arena.specs.declared.instruction.Choice.{Choice}

module _ (a : Lists) (f : Function) where
  -- a line whose operands are those of its layout
  pub record IsLine (i : Inst) : Type 0 where
    pub body : IsBody a f
    pub stands : InstructionStands (instruction_of a f i)

  -- an end whose operands are those of its layout, by ids that are there
  pub record IsEnd (e : the_ending.Ending) : Type 0 where
    pub body : IsBody a f
    pub operands : All (HasOperand (length a.table.types) (length a.constants) (length (value_names f))) (end_operands_of e)
    pub targets : All (λ id. id < length (function_blocks f)) (targets_of e)
    pub stands : EndingStands (ending_of a f e)

  -- the arms of a select have the type of the first
  pub record IsChoiceIn (c : Choice) : Type 0 where
    pub body : IsBody a f
    pub condition : HasValueAt a f (int 1) c.condition.value
    pub first : HasValueAt a f (tree a.table c.first.ty) c.first.value
    pub second : HasValueAt a f (tree a.table c.first.ty) c.second.value

  -- a callee, arguments and a result that stand
  pub record CallStands (c : Call) : Type 0 where
    pub callee : HasValueAt a f ptr c.callee
    pub arguments : AreArgumentsIn a f (map (tree a.table) c.signature.parameters) c.arguments
    pub result : CallResultStands
        (is_void (tree a.table c.signature.returns))
        (option_map (value_name (trees a.table) (constants_of a) (values_in a f) (labels_in a f)) c.result)

  -- what stands behind the name of a result and the flags
  abbrev pub PartsStand : Inst → Type 0
  PartsStand (inst.Binary opcode flags result left right) = HasOperandIn a f left × HasValueAt a f (tree a.table left.ty) right
  PartsStand (inst.Compare flags predicate result left right) = HasOperandIn a f left × HasValueAt a f (tree a.table left.ty) right
  PartsStand (inst.Convert opcode flags result operand to) = HasOperandIn a f operand
  PartsStand (inst.Select result choice) = IsChoiceIn choice
  PartsStand (inst.Freeze result operand) = HasOperandIn a f operand
  PartsStand (inst.Phi result ty incoming) = All (HasIncomingIn a f (tree a.table ty)) incoming
  PartsStand (inst.Load flags result ty address align) = HasValueAt a f ptr address.value × HasCode align
  PartsStand (inst.Store flags stored address align) = HasOperandIn a f stored × HasValueAt a f ptr address.value × HasCode align
  PartsStand (inst.Alloca result ty count align) = IfSome count (HasOperandIn a f) × HasCode align
  PartsStand (inst.GetElementPtr flags result source base indices) = HasValueAt a f ptr base.value × All (HasOperandIn a f) indices
  PartsStand (inst.Call call) = CallStands call
  PartsStand (inst.ExtractValue result aggregate indices) = HasOperandIn a f aggregate
  PartsStand (inst.InsertValue result insertion) = HasOperandIn a f insertion.aggregate × HasOperandIn a f insertion.part
