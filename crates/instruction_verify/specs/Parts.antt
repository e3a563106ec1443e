-- For `judge_instruction_first`, `judge_instruction_types` and `instruction_passes`, for `judge_last`, `operation_passes` and
-- `types_pass`, and for those of ends: what an instruction or an end is asked before the rules on phis and paths, and what behind them.
use Rattle.std.specs.Prelude.{ℕ, Bool, true, false, ◌&&◌, List, [], ◌∷◌, is_some, option_to_list}
use Rattle.module_arena.specs.InstructionRules.{operands_take_no_intrinsic, callee_takes_no_intrinsic, operation_types_suit, operands_suit, operation_alignment_suits, other_types_suit, result_suits}
use Rattle.module_arena.specs.declared.constant.Const.{Const}
use Rattle.module_arena.specs.declared.constant.Const.TheVariants as const
use Rattle.module_arena.specs.Module.{Bytes, Function, Operation, Instruction, Ending, Module}
use Rattle.module_arena.specs.Constants.{written_number}
use Rattle.module_arena.specs.Lists.{Lists}
use Rattle.module_arena.specs.Same.{same_type}
use Rattle.module_arena.specs.View.{constant_at, constants_of}
use Rattle.module_arena.specs.declared.instruction.Case as the_case
use Rattle.type_table.specs.Types.{tree}
use Rattle.module_arena.specs.Operations.{operands, ending_operands, callee, result_type}
use Rattle.type_table.specs.Tree.{Structs}
use Rattle.module_arena.specs.ValueRules.{address_suits, arithmetic_suits, call_suits, callee_fits, cast_suits, element_address_suits, ending_suits, have_types_written, operands_fit, part_suits}
use Rattle.module_arena.specs.Valid.{InstructionOf, Demand, ask}

-- of an instruction with that number in the function of that name: rules 5 to 7
abbrev pub first_demands : Module → (function : Bytes) → (number : ℕ) → Instruction → List Demand
first_demands m function number i =
    ask (InstructionOf number function) 5 (operands_take_no_intrinsic m (operands i.operation) && callee_takes_no_intrinsic m (callee i.operation))
    ∷ ask (InstructionOf number function) 6 (operation_types_suit m.structs i.operation)
    ∷ ask (InstructionOf number function) 7 (operation_alignment_suits i.operation)
    ∷ []

-- of an end with that number: rules 5 and 6
abbrev pub ending_first_demands : Module → (function : Bytes) → (number : ℕ) → Ending → List Demand
ending_first_demands m function number e =
    ask (InstructionOf number function) 5 (operands_take_no_intrinsic m (ending_operands e))
    ∷ ask (InstructionOf number function) 6 (operands_suit m.structs (ending_operands e))
    ∷ []

-- of an instruction, of the types that it works on: rules 12 to 16
abbrev pub type_demands : Module → (function : Bytes) → (number : ℕ) → Instruction → List Demand
type_demands m function number i =
    ask (InstructionOf number function) 12 (arithmetic_suits i.operation)
    ∷ ask (InstructionOf number function) 13 (cast_suits i.operation)
    ∷ ask (InstructionOf number function) 14 (address_suits i.operation)
    ∷ ask (InstructionOf number function) 15 (element_address_suits m.structs i.operation)
    ∷ ask (InstructionOf number function) 16 (part_suits m.structs i.operation)
    ∷ []

-- of an instruction, behind the rule on paths: rules 11 to 18
abbrev pub last_demands : Module → Function → (number : ℕ) → Instruction → List Demand
last_demands m f number i =
    ask (InstructionOf number f.name) 11 (have_types_written m.structs f (operands i.operation))
    ∷ ask (InstructionOf number f.name) 12 (arithmetic_suits i.operation)
    ∷ ask (InstructionOf number f.name) 13 (cast_suits i.operation)
    ∷ ask (InstructionOf number f.name) 14 (address_suits i.operation)
    ∷ ask (InstructionOf number f.name) 15 (element_address_suits m.structs i.operation)
    ∷ ask (InstructionOf number f.name) 16 (part_suits m.structs i.operation)
    ∷ ask (InstructionOf number f.name) 17 (call_suits m.structs f i.result i.operation)
    ∷ ask (InstructionOf number f.name) 18 (operands_fit m.structs (operands i.operation) && callee_fits m.structs (callee i.operation))
    ∷ []

-- of an end, behind the rule on paths: rules 11, 17 and 18
abbrev pub ending_last_demands : Module → Function → (number : ℕ) → Ending → List Demand
ending_last_demands m f number e =
    ask (InstructionOf number f.name) 11 (have_types_written m.structs f (ending_operands e))
    ∷ ask (InstructionOf number f.name) 17 (ending_suits f e)
    ∷ ask (InstructionOf number f.name) 18 (operands_fit m.structs (ending_operands e))
    ∷ []

-- of an end, of the types that it works on and of its constants: rules 17 and 18
abbrev pub ending_type_demands : Module → Function → (number : ℕ) → Ending → List Demand
ending_type_demands m f number e =
    ask (InstructionOf number f.name) 17 (ending_suits f e) ∷ ask (InstructionOf number f.name) 18 (operands_fit m.structs (ending_operands e)) ∷ []

-- the types that an instruction gives or writes, but for those before its operands and in its callee
abbrev pub own_types_suit : Structs → Operation → Bool
own_types_suit structs o = result_suits structs (result_type structs o) && other_types_suit structs o

-- the constant is the address of an entry
abbrev pub is_address : Const → Bool
is_address (const.Address g) = true
is_address _ = false

-- ---- cases, by ids

-- the number of a case, where it is one
abbrev pub numbers_at : Lists → the_case.Case → List ℕ
numbers_at a c = option_to_list (written_number (constant_at (constants_of a) c.value))

-- the case is a number of that type
abbrev pub is_case_at : Lists → ℕ → the_case.Case → Bool
is_case_at a ty c = same_type (tree a.table c.ty) (tree a.table ty) && is_some (written_number (constant_at (constants_of a) c.value))
