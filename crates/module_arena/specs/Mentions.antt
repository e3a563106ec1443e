-- For the calls of `Arena`: the ids that constants, instructions and ends mention.
use Rattle.std.specs.Prelude.{ℕ, List, [], ◌∷◌, map, flat_map, option_to_list}
use Rattle.module_arena.specs.declared.constant.Const.{Const}
use Rattle.module_arena.specs.declared.constant.Const.TheVariants as const
use Rattle.module_arena.specs.declared.constant.TypedConst.{TypedConst}
use Rattle.module_arena.specs.declared.entry.GlobalId.{GlobalId}
use Rattle.module_arena.specs.declared.entry.Block.{Block}
use Rattle.module_arena.specs.declared.instruction.Value.{Value}
use Rattle.module_arena.specs.declared.instruction.Value.TheVariants as value
use Rattle.module_arena.specs.declared.instruction.Operand.{Operand}
use Rattle.module_arena.specs.declared.instruction.Inst.{Inst}
use Rattle.module_arena.specs.declared.instruction.Inst.TheVariants as inst
use Rattle.module_arena.specs.declared.instruction.Ending.{Ending}
use Rattle.module_arena.specs.declared.instruction.Ending.TheVariants as ending

-- the constants that a constant writes within it, with their types
abbrev pub typed_in : Const → List TypedConst
typed_in (const.Aggregate round elements) = elements
typed_in (const.ElementAddress flags address) = address.operands
typed_in (const.Cast opcode operand to) = operand ∷ []
typed_in (const.Binary opcode flags pair) = pair.left ∷ pair.right ∷ []
typed_in c = []

-- the types that it writes elsewhere
abbrev pub types_in : Const → List ℕ
types_in (const.ElementAddress flags address) = address.source ∷ []
types_in (const.Cast opcode operand to) = to ∷ []
types_in c = []

-- the entries that it names
abbrev pub globals_in : Const → List GlobalId
globals_in (const.Address g) = g ∷ []
globals_in c = []

-- the operands of an instruction that are written with their types
abbrev pub operands_of : Inst → List Operand
operands_of (inst.Binary opcode flags result left right) = left ∷ []
operands_of (inst.Compare flags predicate result left right) = left ∷ []
operands_of (inst.Convert opcode flags result operand to) = operand ∷ []
operands_of (inst.Select result choice) = choice.condition ∷ choice.first ∷ choice.second ∷ []
operands_of (inst.Freeze result operand) = operand ∷ []
operands_of (inst.Phi result ty incoming) = []
operands_of (inst.Load flags result ty address alignment) = address ∷ []
operands_of (inst.Store flags stored address alignment) = stored ∷ address ∷ []
operands_of (inst.Alloca result ty count alignment) = option_to_list count
operands_of (inst.GetElementPtr flags result source base indices) = base ∷ indices
operands_of (inst.Call call) = call.arguments
operands_of (inst.ExtractValue result aggregate indices) = aggregate ∷ []
operands_of (inst.InsertValue result insertion) = insertion.aggregate ∷ insertion.part ∷ []

-- the operands that are written without a type
abbrev pub bare_values_of : Inst → List Value
bare_values_of (inst.Binary opcode flags result left right) = right ∷ []
bare_values_of (inst.Compare flags predicate result left right) = right ∷ []
bare_values_of (inst.Phi result ty incoming) = map (λ i. i.value) incoming
bare_values_of (inst.Call call) = call.callee ∷ []
bare_values_of i = []

-- the types that it writes elsewhere than before an operand
abbrev pub types_of : Inst → List ℕ
types_of (inst.Convert opcode flags result operand to) = to ∷ []
types_of (inst.Phi result ty incoming) = ty ∷ []
types_of (inst.Load flags result ty address alignment) = ty ∷ []
types_of (inst.Alloca result ty count alignment) = ty ∷ []
types_of (inst.GetElementPtr flags result source base indices) = source ∷ []
types_of (inst.Call call) = call.signature.returns ∷ call.signature.parameters
types_of i = []

-- the blocks that an instruction names
abbrev pub blocks_of : Inst → List ℕ
blocks_of (inst.Phi result ty incoming) = map (λ i. i.block) incoming
blocks_of i = []

-- the value that an instruction defines
abbrev pub result_of : Inst → List ℕ
result_of (inst.Binary opcode flags result left right) = result ∷ []
result_of (inst.Compare flags predicate result left right) = result ∷ []
result_of (inst.Convert opcode flags result operand to) = result ∷ []
result_of (inst.Select result choice) = result ∷ []
result_of (inst.Freeze result operand) = result ∷ []
result_of (inst.Phi result ty incoming) = result ∷ []
result_of (inst.Load flags result ty address alignment) = result ∷ []
result_of (inst.Store flags stored address alignment) = []
result_of (inst.Alloca result ty count alignment) = result ∷ []
result_of (inst.GetElementPtr flags result source base indices) = result ∷ []
result_of (inst.Call call) = option_to_list call.result
result_of (inst.ExtractValue result aggregate indices) = result ∷ []
result_of (inst.InsertValue result insertion) = result ∷ []

-- the operands of an end
abbrev pub end_operands_of : Ending → List Operand
end_operands_of (ending.Return operand) = operand ∷ []
end_operands_of (ending.Branch condition then_to else_to) = condition ∷ []
end_operands_of (ending.Switch operand otherwise cases) = operand ∷ map (λ c. record { ty = c.ty; value = value.Known c.value }) cases
end_operands_of e = []

-- the blocks that an end goes to
abbrev pub targets_of : Ending → List ℕ
targets_of (ending.Jump target) = target ∷ []
targets_of (ending.Branch condition then_to else_to) = then_to ∷ else_to ∷ []
targets_of (ending.Switch operand otherwise cases) = otherwise ∷ map (λ c. c.target) cases
targets_of e = []

-- the values that a block defines, in order
abbrev pub block_results : Block → List ℕ
block_results b = flat_map result_of b.instructions
