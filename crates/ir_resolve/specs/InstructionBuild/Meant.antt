-- For `build_instruction` and `build_ending`: what the parts of a body stand for in an arena, where these are the names
-- of the function's values and blocks.
use Rattle.std.specs.Prelude.{◌≡◌, ◌<◌, List, length, All}
use Rattle.type_table.specs.Types.{trees}
use Rattle.module_arena.specs.declared.instruction.Value as the_value
use Rattle.module_arena.specs.declared.instruction.Operand as the_operand
use Rattle.module_arena.specs.declared.instruction.Inst.{Inst}
use Rattle.module_arena.specs.declared.instruction.Ending as the_ending
use Rattle.module_arena.specs.Lists.{Lists}
use Rattle.module_arena.specs.Known.{HasValue, HasOperand, KnowsInst}
use Rattle.module_arena.specs.Mentions.{end_operands_of, targets_of}
use Rattle.module_arena.specs.Module.{LocalName, Value, Operand, Instruction, Ending}
use Rattle.module_arena.specs.View.{constants_of, value_view, inst_view, ending_view}
use Rattle.item_build.specs.Types.Stands.{IsType}

module _ (values blocks : List LocalName) where
  -- the value is this one
  pub record IsValue (a : Lists) (v : the_value.Value) (expected : Value) : Type 0 where
    pub known : HasValue (length a.constants) (length values) v
    pub value : value_view (trees a.table) (constants_of a) values blocks v ≡ expected

  -- the operand is this one
  pub record IsOperand (a : Lists) (o : the_operand.Operand) (expected : Operand) : Type 0 where
    pub ty : IsType a o.ty expected.ty
    pub value : IsValue a o.value expected.value

  -- the instruction is this one
  pub record IsInst (a : Lists) (i : Inst) (expected : Instruction) : Type 0 where
    pub known : KnowsInst (length a.table.types) (length a.constants) (length values) (length blocks) i
    pub instruction : inst_view (trees a.table) (constants_of a) values blocks i ≡ expected

  -- the end of a block is this one
  pub record IsEnding (a : Lists) (e : the_ending.Ending) (expected : Ending) : Type 0 where
    pub operands_known : All (HasOperand (length a.table.types) (length a.constants) (length values)) (end_operands_of e)
    pub targets_known : All (λ id. id < length blocks) (targets_of e)
    pub ending : ending_view (trees a.table) (constants_of a) values blocks e ≡ expected
