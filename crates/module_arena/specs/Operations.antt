-- For `Checked::seal`: what instructions and ends work on and give.
use Rattle.std.specs.Prelude.{List, [], ◌∷◌, map, Option, Some, None, if◌then◌else◌}
use Rattle.std.specs.Option.{option_to_list}
use Rattle.type_table.specs.Tree.{Tree, int, ptr, Structs}
use Rattle.module_arena.specs.Module.{LocalName, Value, Operand, Incoming, Operation, Case, Ending}
use Rattle.module_arena.specs.Module.Value.{Local, Known}
use Rattle.module_arena.specs.Module.Operation.{BinaryOperation, Compare, Convert, Select, Freeze, Phi, Load, Store, Alloca, GetElementPtr, Call, ExtractValue, InsertValue}
use Rattle.module_arena.specs.Module.Ending.{ReturnVoid, Return, Jump, Branch, Switch, Unreachable}
use Rattle.module_arena.specs.TypeTests.{is_void, part_at}

-- The type of the result: none for a `store` and a call of a void function, nor where the indices of `extractvalue` name
-- no part
abbrev pub result_type : Structs → Operation → Option Tree
result_type structs (BinaryOperation opcode flags left right) = Some left.ty
result_type structs (Compare flags predicate left right) = Some (int 1)
result_type structs (Convert opcode flags value to) = Some to
result_type structs (Select condition first second) = Some first.ty
result_type structs (Freeze value) = Some value.ty
result_type structs (Phi ty incoming) = Some ty
result_type structs (Load flags ty address alignment) = Some ty
result_type structs (Store flags value address alignment) = None
result_type structs (Alloca ty count alignment) = Some ptr
result_type structs (GetElementPtr flags source base indices) = Some ptr
result_type structs (Call signature callee arguments) = if is_void signature.returns then None else Some signature.returns
result_type structs (ExtractValue aggregate indices) = part_at structs aggregate.ty indices
result_type structs (InsertValue aggregate part indices) = Some aggregate.ty

-- a value of a phi, with the phi's type
abbrev pub incoming_operand : Tree → Incoming → Operand
incoming_operand ty i = record { ty = ty; value = i.value }

-- the operands, each with the type that its place writes; a callee has none
abbrev pub operands : Operation → List Operand
operands (BinaryOperation opcode flags left right) = left ∷ record { ty = left.ty; value = right } ∷ []
operands (Compare flags predicate left right) = left ∷ record { ty = left.ty; value = right } ∷ []
operands (Convert opcode flags value to) = value ∷ []
operands (Select condition first second) = condition ∷ first ∷ second ∷ []
operands (Freeze value) = value ∷ []
operands (Phi ty incoming) = map (incoming_operand ty) incoming
operands (Load flags ty address alignment) = address ∷ []
operands (Store flags value address alignment) = value ∷ address ∷ []
operands (Alloca ty count alignment) = option_to_list count
operands (GetElementPtr flags source base indices) = base ∷ indices
operands (Call signature callee arguments) = arguments
operands (ExtractValue aggregate indices) = aggregate ∷ []
operands (InsertValue aggregate part indices) = aggregate ∷ part ∷ []

-- the number of a case, with its type
abbrev pub case_operand : Case → Operand
case_operand c = record { ty = c.ty; value = Known c.value }

-- the operands of an end
abbrev pub ending_operands : Ending → List Operand
ending_operands ReturnVoid = []
ending_operands (Return value) = value ∷ []
ending_operands (Jump target) = []
ending_operands (Branch condition then_to else_to) = condition ∷ []
ending_operands (Switch value otherwise cases) = value ∷ map case_operand cases
ending_operands Unreachable = []

-- the value that is called
abbrev pub callee : Operation → Option Value
callee (Call signature value arguments) = Some value
callee _ = None

-- where a block goes at its end, once for each edge
abbrev pub targets : Ending → List LocalName
targets ReturnVoid = []
targets (Return value) = []
targets (Jump target) = target ∷ []
targets (Branch condition then_to else_to) = then_to ∷ else_to ∷ []
targets (Switch value otherwise cases) = otherwise ∷ map (λ c. c.target) cases
targets Unreachable = []

-- the parameters and results that are among values
abbrev pub local_in : Value → List LocalName
local_in (Local name) = name ∷ []
local_in (Known constant) = []
