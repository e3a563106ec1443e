-- For `put_instruction` and `put_ending`: when the ids of their parts are those of the arena.
use Rattle.std.specs.Prelude.{◌<◌, List, length, All, IfSome}
use Rattle.module_arena.specs.declared.entry.Function.{Function}
use Rattle.module_arena.specs.declared.instruction.Call.{Call}
use Rattle.module_arena.specs.declared.instruction.Case.{Case}
use Rattle.module_arena.specs.declared.instruction.Choice.{Choice}
use Rattle.module_arena.specs.declared.instruction.Ending.{Ending}
use Rattle.module_arena.specs.declared.instruction.Incoming.{Incoming}
use Rattle.module_arena.specs.declared.instruction.Inst.{Inst}
use Rattle.module_arena.specs.declared.instruction.Operand.{Operand}
use Rattle.module_arena.specs.Known.{KnowsInst}
use Rattle.module_arena.specs.Lists.{Lists, value_names, function_blocks}
use Rattle.module_arena.specs.Mentions.{result_of, operands_of, bare_values_of, types_of, end_operands_of}
use Rattle.record_write.specs.Operands.Wide.{KnowsValue}

module _ (a : Lists) where
  -- the type of an operand, and the constant that it may be
  pub record KnowsOperand (o : Operand) : Type 0 where
    pub ty : o.ty < length a.table.types
    pub value : KnowsValue (length a.constants) o.value

  -- those of several
  abbrev pub KnowsOperands : List Operand → Type 0
  KnowsOperands parts = All KnowsOperand parts

  -- the constants among the values of a phi
  abbrev pub KnowsIncoming : List Incoming → Type 0
  KnowsIncoming parts = All (λ part. KnowsValue (length a.constants) part.value) parts

  -- the constants of the cases of a switch
  abbrev pub KnowsCases : List Case → Type 0
  KnowsCases cases = All (λ case. case.value < length a.constants) cases

  -- the operands of a select
  pub record KnowsChoice (c : Choice) : Type 0 where
    pub condition : KnowsOperand c.condition
    pub first : KnowsOperand c.first
    pub second : KnowsOperand c.second

  -- the operands of an end
  abbrev pub KnowsEnd : Ending → Type 0
  KnowsEnd e = All KnowsOperand (end_operands_of e)

  module _ (f : Function) where
    -- all that a call has
    pub record KnowsCall (c : Call) : Type 0 where
      pub returns : c.signature.returns < length a.table.types
      pub parameters : All (λ ty. ty < length a.table.types) c.signature.parameters
      pub callee : KnowsValue (length a.constants) c.callee
      pub arguments : All KnowsOperand c.arguments
      pub result : IfSome c.result (λ id. id < length (value_names f))

    -- what an instruction has but for a result that stands first
    pub record KnowsParts (i : Inst) : Type 0 where
      pub operands : All KnowsOperand (operands_of i)
      pub values : All (KnowsValue (length a.constants)) (bare_values_of i)
      pub types : All (λ ty. ty < length a.table.types) (types_of i)
      pub result : All (λ id. id < length (value_names f)) (result_of i)

    -- an instruction of the function
    pub record KnowsLine (i : Inst) : Type 0 where
      pub known : KnowsInst (length a.table.types) (length a.constants) (length (value_names f)) (length (function_blocks f)) i
      pub result : All (λ id. id < length (value_names f)) (result_of i)
