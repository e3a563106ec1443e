-- For `resolve`: the instructions and blocks that a text writes, as those of a module.
use Rattle.std.specs.Prelude.{ℕ, false, cond, List, [], ◌∷◌, map, Option, Some, None, option_map}
use Rattle.ir_phrases.specs.Constants.Tree.{TypeTree, TypedValueTree}
use Rattle.ir_phrases.specs.Instructions.Tree.{SignatureTree, CallTree, IncomingTree, OperationTree, InstructionTree, CaseTree, EndingTree, BlockTree}
use Rattle.ir_phrases.specs.Instructions.Tree as tree
use Rattle.type_table.specs.Tree.{Tree, ptr}
use Rattle.module_arena.specs.Module.{Incoming, Signature, Operation, Instruction, Case, Ending, Block}
use Rattle.module_arena.specs.Module as m
use Rattle.name_rules.specs.Locals.{local_in, called, next_behind, has_result, announced_block, announced_result, next_after}
use Rattle.name_rules.specs.Written.{natural, type_in, constant_in, value_in, operand_in, alignment_in}

-- a value of a phi of that type, and its block
abbrev pub incoming_in : Tree → IncomingTree → Incoming
incoming_in t written = record { value = value_in t written.0; block = local_in written.1 }

-- the types of the arguments
abbrev pub types_of : List TypedValueTree → List Tree
types_of arguments = map (λ a. type_in a.0) arguments

-- the function type of a call, whole: what it writes, else made of the return type and the types of the arguments
abbrev pub signature_in : TypeTree → List TypedValueTree → Option SignatureTree → Signature
signature_in returns arguments (Some written) = record { returns = type_in returns; parameters = map type_in written.0; variadic = written.1 }
signature_in returns arguments None = record { returns = type_in returns; parameters = types_of arguments; variadic = false }

-- a call: what is called stands at the type of addresses
abbrev pub call_in : CallTree → Operation
call_in call = m.Call (signature_in call.returns call.arguments call.signature) (value_in ptr call.callee) (map operand_in call.arguments)

-- getelementptr: the first operand is the base, the others are indices; each such phrase has a first
abbrev pub element_address_in : ℕ → TypeTree → List TypedValueTree → Operation
element_address_in flags source [] = m.GetElementPtr flags (type_in source) (record { ty = ptr; value = m.Known m.Poison }) []
element_address_in flags source (base ∷ indices) = m.GetElementPtr flags (type_in source) (operand_in base) (map operand_in indices)

-- an operation, part by part
abbrev pub operation_in : OperationTree → Operation
operation_in (tree.Binary opcode flags left right) = m.BinaryOperation opcode flags (operand_in left) (value_in (type_in left.0) right)
operation_in (tree.Compare flags predicate left right) = m.Compare flags predicate (operand_in left) (value_in (type_in left.0) right)
operation_in (tree.Cast opcode flags value to) = m.Convert opcode flags (operand_in value) (type_in to)
operation_in (tree.Select condition first second) = m.Select (operand_in condition) (operand_in first) (operand_in second)
operation_in (tree.Freeze value) = m.Freeze (operand_in value)
operation_in (tree.Phi ty incoming) = m.Phi (type_in ty) (map (incoming_in (type_in ty)) incoming)
operation_in (tree.Load flags ty address alignment) = m.Load flags (type_in ty) (operand_in address) (alignment_in alignment)
operation_in (tree.Store flags value address alignment) = m.Store flags (operand_in value) (operand_in address) (alignment_in alignment)
operation_in (tree.Alloca ty count alignment) = m.Alloca (type_in ty) (option_map operand_in count) (alignment_in alignment)
operation_in (tree.GetElementPtr flags source operands) = element_address_in flags source operands
operation_in (tree.Call call) = call_in call
operation_in (tree.ExtractValue aggregate indices) = m.ExtractValue (operand_in aggregate) (map natural indices)
operation_in (tree.InsertValue aggregate part indices) = m.InsertValue (operand_in aggregate) (operand_in part) (map natural indices)

-- an instruction, whose result, where it has one, is the next one
abbrev pub instruction_in : ℕ → InstructionTree → Instruction
instruction_in next written = record { result = cond (has_result written) (Some (called next written.result)) None; operation = operation_in written.operation }

-- instructions, the first of whose results is the next one
abbrev pub instructions_in : ℕ → List InstructionTree → List Instruction
instructions_in next [] = []
instructions_in next (written ∷ more) = instruction_in next written ∷ instructions_in (next_after next (announced_result written)) more

-- a case of a switch
abbrev pub case_in : CaseTree → Case
case_in ((ty, value), target) = record { ty = type_in ty; value = constant_in (type_in ty) value; target = local_in target }

-- the end of a block
abbrev pub ending_in : EndingTree → Ending
ending_in tree.ReturnVoid = m.ReturnVoid
ending_in (tree.Return value) = m.Return (operand_in value)
ending_in (tree.Jump target) = m.Jump (local_in target)
ending_in (tree.Branch condition then_to else_to) = m.Branch (operand_in condition) (local_in then_to) (local_in else_to)
ending_in (tree.Switch value otherwise cases) = m.Switch (operand_in value) (local_in otherwise) (map case_in cases)
ending_in tree.Unreachable = m.Unreachable

-- a block, which is the next one
abbrev pub block_in : ℕ → BlockTree → Block
block_in next written = record {
  name = called next written.label;
  instructions = instructions_in (next_behind next written.label) written.instructions;
  ending = ending_in written.ending;
}

-- blocks, the first of which is the next one
abbrev pub blocks_in : ℕ → List BlockTree → List Block
blocks_in next [] = []
blocks_in next (written ∷ more) = block_in next written ∷ blocks_in (next_after next (announced_block written)) more
