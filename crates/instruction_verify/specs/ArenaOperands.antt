-- For `judge_instruction_first`, `judge_instruction_types` and `instruction_passes`, and those of ends: an instruction and an end of an
-- arena as those of a module; and what is known of some operands, so that each is looked at once.
use Rattle.std.specs.Prelude.{ℕ, ◌<◌, true, ◌&&◌, List, All, length, ⊤}
use Rattle.module_arena.specs.declared.instruction.Inst as the_inst
use Rattle.module_arena.specs.declared.instruction.Ending as the_ending
use Rattle.module_arena.specs.declared.instruction.Case as the_case
use Rattle.module_arena.specs.declared.instruction.Incoming as the_incoming
use Rattle.module_arena.specs.declared.instruction.Operand as the_operand
use Rattle.module_arena.specs.declared.instruction.Value as the_value
use Rattle.module_arena.specs.declared.instruction.Value.TheVariants as value
use Rattle.module_arena.specs.InstructionRules.{operands_take_no_intrinsic, operands_suit, value_takes_no_intrinsic, value_types_suit}
use Rattle.module_arena.specs.Lists.{Lists}
use Rattle.module_arena.specs.Mentions.{operands_of, bare_values_of, types_of}
use Rattle.module_arena.specs.Module.{LocalName, Value, Operand, Instruction, Case, Ending, Module}
use Rattle.module_arena.specs.Operations.{case_operand, incoming_operand}
use Rattle.module_arena.specs.TypeTests.{is_passable}
use Rattle.module_arena.specs.ValueRules.{index_of_operand, operands_fit, value_fits}
use Rattle.module_arena.specs.Constants.{Index}
use Rattle.module_arena.specs.View.{type_at, constants_of, value_view, operand_view, incoming_view, inst_view, case_view, ending_view}
use Rattle.type_table.specs.Types.{trees}
use Rattle.instruction_verify.specs.declared.operands.OperandFact.{OperandFact}

-- ---- what is known of operands

-- of none
abbrev pub all_pass : OperandFact
all_pass = record { takes_no_intrinsic = true; types_suit = true; fits = true }

-- what holds of both
abbrev pub both_operand_facts : OperandFact → OperandFact → OperandFact
both_operand_facts f g = record {
  takes_no_intrinsic = f.takes_no_intrinsic && g.takes_no_intrinsic;
  types_suit = f.types_suit && g.types_suit;
  fits = f.fits && g.fits;
}

-- of one operand
abbrev pub operand_fact : Module → Operand → OperandFact
operand_fact m o = record {
  takes_no_intrinsic = value_takes_no_intrinsic m o.ty o.value;
  types_suit = is_passable m.structs o.ty && value_types_suit m.structs o.ty o.value;
  fits = value_fits m.structs o.ty o.value;
}

-- of these operands
abbrev pub operands_fact : Module → List Operand → OperandFact
operands_fact m os = record {
  takes_no_intrinsic = operands_take_no_intrinsic m os;
  types_suit = operands_suit m.structs os;
  fits = operands_fit m.structs os;
}

-- ---- by ids, from the names of the values and of the blocks

-- a value of the module
abbrev pub value_in : Lists → (values blocks : List LocalName) → the_value.Value → Value
value_in a values blocks v = value_view (trees a.table) (constants_of a) values blocks v

-- an operand of the module
abbrev pub operand_in : Lists → (values blocks : List LocalName) → the_operand.Operand → Operand
operand_in a values blocks o = operand_view (trees a.table) (constants_of a) values blocks o

-- an operand as an index
abbrev pub index_in : Lists → (values blocks : List LocalName) → the_operand.Operand → Index
index_in a values blocks o = index_of_operand (operand_in a values blocks o)

-- an instruction of the module
abbrev pub instruction_in : Lists → (values blocks : List LocalName) → the_inst.Inst → Instruction
instruction_in a values blocks i = inst_view (trees a.table) (constants_of a) values blocks i

-- an end of a block of the module
abbrev pub ending_in : Lists → (values blocks : List LocalName) → the_ending.Ending → Ending
ending_in a values blocks e = ending_view (trees a.table) (constants_of a) values blocks e

-- a value of a phi of that type
abbrev pub phi_operand_in : Lists → (values blocks : List LocalName) → ℕ → the_incoming.Incoming → Operand
phi_operand_in a values blocks ty i = incoming_operand (type_at (trees a.table) ty) (incoming_view (trees a.table) (constants_of a) values blocks i)

-- a case of a switch
abbrev pub case_in : Lists → (values blocks : List LocalName) → the_case.Case → Case
case_in a values blocks c = case_view (trees a.table) (constants_of a) values blocks c

-- its number, with its type
abbrev pub case_operand_in : Lists → (values blocks : List LocalName) → the_case.Case → Operand
case_operand_in a values blocks c = case_operand (case_in a values blocks c)

-- ---- what ids are of the arena

-- a constant is one of the arena
abbrev pub HasConstant : Lists → the_value.Value → Type 0
HasConstant a (value.Local id) = ⊤
HasConstant a (value.Known id) = id < length a.constants

-- the type is one of the arena, and so is a constant
abbrev pub HasOperand : Lists → the_operand.Operand → Type 0
HasOperand a o = (o.ty < length a.table.types) × HasConstant a o.value

-- the type of a case is one of the arena, and so is its number
abbrev pub HasCase : Lists → the_case.Case → Type 0
HasCase a c = (c.ty < length a.table.types) × (c.value < length a.constants)

-- the types and constants of an instruction are of the arena
pub record HasInst (a : Lists) (i : the_inst.Inst) : Type 0 where
  pub operands_known : All (HasOperand a) (operands_of i)
  pub values_known : All (HasConstant a) (bare_values_of i)
  pub types_known : All (λ ty. ty < length a.table.types) (types_of i)
