-- For `read_items`: the forms of the instructions of a text: opcodes, flags and parts as their phrases have them.
use Rattle.std.specs.Prelude.{◌≡◌, true, Option, Some, None}
use Rattle.ir_tables.specs.declared.opcode.Opcode.TheVariants as op
pub use Rattle.ir_tables.specs.OpcodeGroups.{is_binary, is_cast}
use Rattle.ir_phrases.specs.Constants.Tree.{TypedValueTree}
use Rattle.ir_phrases.specs.Constants.Forms.{AllAre, IsNotEmpty, AreFlagsOf, IsTypedFormed, IsValueFormed, IsOperandFormed}
use Rattle.ir_phrases.specs.Instructions.Tree.{IncomingTree, OperationTree, Binary, Compare, Cast, Select, Freeze, Phi, Load, Store, Alloca, GetElementPtr, Call, ExtractValue, InsertValue, InstructionTree, CaseTree, EndingTree, ReturnVoid, Return, Jump, Branch, Switch, Unreachable, BlockTree}

-- a count, where there is one, has its phrase's form
abbrev pub IsCountFormed : Option TypedValueTree → Type 0
IsCountFormed (Some count) = IsOperandFormed count
IsCountFormed None = Unit {0}

-- the value of a phi has its phrase's form
abbrev pub IsIncomingFormed : IncomingTree → Type 0
IsIncomingFormed incoming = IsValueFormed incoming.0

-- the operation, and each constant in it, is as its phrase has it
abbrev pub IsOperationFormed : OperationTree → Type 0
IsOperationFormed (Binary opcode flags left right) = (is_binary opcode ≡ true) × AreFlagsOf opcode flags × IsOperandFormed left × IsValueFormed right
IsOperationFormed (Compare flags predicate left right) = AreFlagsOf op.ICmp flags × IsOperandFormed left × IsValueFormed right
IsOperationFormed (Cast opcode flags value to) = (is_cast opcode ≡ true) × AreFlagsOf opcode flags × IsOperandFormed value
IsOperationFormed (Select condition first second) = IsOperandFormed condition × IsOperandFormed first × IsOperandFormed second
IsOperationFormed (Freeze value) = IsOperandFormed value
IsOperationFormed (Phi ty incoming) = IsNotEmpty incoming × AllAre IsIncomingFormed incoming
IsOperationFormed (Load flags ty address alignment) = AreFlagsOf op.Load flags × IsOperandFormed address
IsOperationFormed (Store flags value address alignment) = AreFlagsOf op.Store flags × IsOperandFormed value × IsOperandFormed address
IsOperationFormed (Alloca ty count alignment) = IsCountFormed count
IsOperationFormed (GetElementPtr flags source operands) = AreFlagsOf op.GetElementPtr flags × IsNotEmpty operands × AllAre IsOperandFormed operands
IsOperationFormed (Call call) = IsValueFormed call.callee × AllAre IsOperandFormed call.arguments
IsOperationFormed (ExtractValue value indices) = IsOperandFormed value × IsNotEmpty indices
IsOperationFormed (InsertValue value part indices) = IsOperandFormed value × IsOperandFormed part × IsNotEmpty indices

-- an instruction has its phrase's form
abbrev pub IsInstructionFormed : InstructionTree → Type 0
IsInstructionFormed instruction = IsOperationFormed instruction.operation

-- a case has its phrase's form
abbrev pub IsCaseFormed : CaseTree → Type 0
IsCaseFormed case = IsTypedFormed case.0

-- the end of a block has its phrase's form
abbrev pub IsEndingFormed : EndingTree → Type 0
IsEndingFormed ReturnVoid = Unit {0}
IsEndingFormed (Return value) = IsOperandFormed value
IsEndingFormed (Jump target) = Unit {0}
IsEndingFormed (Branch condition then_to else_to) = IsOperandFormed condition
IsEndingFormed (Switch value otherwise cases) = IsOperandFormed value × AllAre IsCaseFormed cases
IsEndingFormed Unreachable = Unit {0}

-- a block has its phrase's form
abbrev pub IsBlockFormed : BlockTree → Type 0
IsBlockFormed block = AllAre IsInstructionFormed block.instructions × IsEndingFormed block.ending
