-- For `blocks_of` and `signature`, and how the code reads: the plain tree of an instruction or a block as it lies in
-- memory.
use Rattle.std.specs.Prelude.{map, Option, option_map, Box}
use Rattle.std.specs.Global.{Global}
use Rattle.ir_terminals.specs.declared.values.Integer.{Integer}
use Rattle.ir_phrases.specs.Constants.Tree.{TypedValueTree, ValueTree}
use Rattle.ir_phrases.specs.declared.constants.value.TypedValue.{TypedValue}
use Rattle.ir_phrases.specs.Constants.View.{type_view, typed_constant_view, value_view, typed_value_view}
use Rattle.ir_phrases.specs.declared.instructions.operation.SignatureTypes.{SignatureTypes}
use Rattle.ir_phrases.specs.declared.instructions.operation.WrittenCall as the_call
use Rattle.ir_phrases.specs.declared.instructions.operation.WrittenIncoming.{WrittenIncoming}
use Rattle.ir_phrases.specs.declared.instructions.operation.Operands.{Operands}
use Rattle.ir_phrases.specs.declared.instructions.operation.Operation as the_operation
use Rattle.ir_phrases.specs.declared.instructions.operation.Operation.TheVariants as op
use Rattle.ir_phrases.specs.declared.instructions.block.Instruction.{Instruction}
use Rattle.ir_phrases.specs.declared.instructions.block.WrittenCase.{WrittenCase}
use Rattle.ir_phrases.specs.declared.instructions.block.WrittenEnding.{WrittenEnding}
use Rattle.ir_phrases.specs.declared.instructions.block.WrittenEnding.TheVariants as ending
use Rattle.ir_phrases.specs.declared.instructions.block.WrittenBlock.{WrittenBlock}
use Rattle.ir_phrases.specs.Instructions.Tree.{SignatureTree, CallTree, IncomingTree, OperationTree, Binary, Compare, Cast, Select, Freeze, Phi, Load, Store, Alloca, GetElementPtr, Call, ExtractValue, InsertValue, InstructionTree, CaseTree, EndingTree, ReturnVoid, Return, Jump, Branch, Switch, Unreachable, BlockTree}

-- a signature as a tree
abbrev pub signature_view : SignatureTypes → SignatureTree
signature_view s = (map type_view s.parameters.items, s.variadic)

-- a call as a tree
abbrev pub call_view : the_call.WrittenCall → CallTree
call_view c = record {
  returns = type_view c.returns;
  signature = option_map signature_view c.signature;
  callee = value_view c.callee;
  arguments = map typed_value_view c.arguments.items;
}

-- the value of a phi as a tree
abbrev pub incoming_view : WrittenIncoming → IncomingTree
incoming_view i = (value_view i.value, i.block)

-- two operands of one type as trees
abbrev pub operands_view : Operands → TypedValueTree × ValueTree
operands_view o = (typed_value_view o.left, value_view o.right)

-- a count and an alignment, where they are written
abbrev pub count_view : Option (Box TypedValue Global) × Option Integer → Option TypedValueTree × Option Integer
count_view c = (option_map (λ b. typed_value_view b.value) c.0, c.1)

-- an operation as a tree
abbrev pub operation_view : the_operation.Operation → OperationTree
operation_view (op.Binary opcode flags operands) = Binary opcode flags (typed_value_view operands.value.left) (value_view operands.value.right)
operation_view (op.Compare flags predicate operands) = Compare flags predicate (typed_value_view operands.value.left) (value_view operands.value.right)
operation_view (op.Cast opcode flags conversion) = Cast opcode flags (typed_value_view conversion.value.value) (type_view conversion.value.to)
operation_view (op.Select choice) = Select (typed_value_view choice.value.condition) (typed_value_view choice.value.first) (typed_value_view choice.value.second)
operation_view (op.Freeze value) = Freeze (typed_value_view value.value)
operation_view (op.Phi phi) = Phi (type_view phi.value.ty) (map incoming_view phi.value.incoming.items)
operation_view (op.Load flags load) = Load flags (type_view load.value.ty) (typed_value_view load.value.address) load.value.alignment
operation_view (op.Store flags store) = Store flags (typed_value_view store.value.value) (typed_value_view store.value.address) store.value.alignment
operation_view (op.Alloca alloca) = Alloca (type_view alloca.value.ty) (option_map (λ b. typed_value_view b.value) alloca.value.count) alloca.value.alignment
operation_view (op.GetElementPtr flags address) = GetElementPtr flags (type_view address.value.source) (map typed_value_view address.value.operands.items)
operation_view (op.Call call) = Call (call_view call.value)
operation_view (op.ExtractValue extraction) = ExtractValue (typed_value_view extraction.value.value) extraction.value.indices.items
operation_view (op.InsertValue insertion) = InsertValue (typed_value_view insertion.value.value) (typed_value_view insertion.value.part) insertion.value.indices.items

-- an instruction as a tree
abbrev pub instruction_view : Instruction → InstructionTree
instruction_view i = record { result = i.result; operation = operation_view i.operation }

-- a case as a tree
abbrev pub case_view : WrittenCase → CaseTree
case_view c = (typed_constant_view c.value, c.target)

-- the end of a block as a tree
abbrev pub ending_view : WrittenEnding → EndingTree
ending_view ending.ReturnVoid = ReturnVoid
ending_view (ending.Return value) = Return (typed_value_view value)
ending_view (ending.Jump target) = Jump target
ending_view (ending.Branch branch) = Branch (typed_value_view branch.value.condition) branch.value.then_to branch.value.else_to
ending_view (ending.Switch switch) = Switch (typed_value_view switch.value.value) switch.value.otherwise (map case_view switch.value.cases.items)
ending_view ending.Unreachable = Unreachable

-- a block as a tree
abbrev pub block_view : WrittenBlock → BlockTree
block_view b = record { label = b.label; instructions = map instruction_view b.instructions.items; ending = ending_view b.ending }
