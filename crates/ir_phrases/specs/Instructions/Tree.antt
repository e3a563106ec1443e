-- For `blocks_of` and `signature`: instructions and blocks as plain trees.
use Rattle.std.specs.Prelude.{ℕ, Bool, List, Option}
use Rattle.ir_tables.specs.declared.opcode.Opcode.{Opcode}
use Rattle.ir_tables.specs.declared.predicate.Predicate.{Predicate}
use Rattle.ir_terminals.specs.declared.values.Integer.{Integer}
use Rattle.ir_terminals.specs.declared.values.Local.{Local}
use Rattle.ir_phrases.specs.Constants.Tree.{TypeTree, TypedConstantTree, ValueTree, TypedValueTree}

-- the parameters that a call writes, and whether `...` ends them
abbrev pub SignatureTree : Type 0
SignatureTree = List TypeTree × Bool

-- a call: its return type, the parameters where it writes them, what is called, and the arguments
pub record CallTree : Type 0 where
  pub returns : TypeTree
  pub signature : Option SignatureTree
  pub callee : ValueTree
  pub arguments : List TypedValueTree

-- a value of a phi, and the block that it comes from
abbrev pub IncomingTree : Type 0
IncomingTree = ValueTree × Local

-- What an instruction does; flags are the sum of their codes.
pub data OperationTree : Type 0 where
  -- a binary instruction on integers; the right value has the type of the left
  Binary : (opcode : Opcode) → (flags : ℕ) → (left : TypedValueTree) → (right : ValueTree) → OperationTree
  -- `icmp`
  Compare : (flags : ℕ) → (predicate : Predicate) → (left : TypedValueTree) → (right : ValueTree) → OperationTree
  -- a cast
  Cast : (opcode : Opcode) → (flags : ℕ) → (value : TypedValueTree) → (to : TypeTree) → OperationTree
  -- `select`
  Select : (condition : TypedValueTree) → (first second : TypedValueTree) → OperationTree
  -- `freeze`
  Freeze : (value : TypedValueTree) → OperationTree
  -- `phi`
  Phi : (ty : TypeTree) → (incoming : List IncomingTree) → OperationTree
  -- `load`
  Load : (flags : ℕ) → (ty : TypeTree) → (address : TypedValueTree) → (alignment : Option Integer) → OperationTree
  -- `store`
  Store : (flags : ℕ) → (value : TypedValueTree) → (address : TypedValueTree) → (alignment : Option Integer) → OperationTree
  -- `alloca` of so many values, of one where no count is written
  Alloca : (ty : TypeTree) → (count : Option TypedValueTree) → (alignment : Option Integer) → OperationTree
  -- `getelementptr`; the first operand is the pointer
  GetElementPtr : (flags : ℕ) → (source : TypeTree) → (operands : List TypedValueTree) → OperationTree
  -- `call`
  Call : (call : CallTree) → OperationTree
  -- `extractvalue`
  ExtractValue : (aggregate : TypedValueTree) → (indices : List Integer) → OperationTree
  -- `insertvalue`
  InsertValue : (aggregate : TypedValueTree) → (part : TypedValueTree) → (indices : List Integer) → OperationTree

-- an instruction, and what its result is called where that is written
pub record InstructionTree : Type 0 where
  pub result : Option Local
  pub operation : OperationTree

-- a case of a switch, and where it goes
abbrev pub CaseTree : Type 0
CaseTree = TypedConstantTree × Local

-- how a block ends
pub data EndingTree : Type 0 where
  -- `ret void`
  ReturnVoid : EndingTree
  -- `ret`, with a value
  Return : (value : TypedValueTree) → EndingTree
  -- `br` to one block
  Jump : (target : Local) → EndingTree
  -- `br` by a condition
  Branch : (condition : TypedValueTree) → (then_to else_to : Local) → EndingTree
  -- `switch`
  Switch : (value : TypedValueTree) → (otherwise : Local) → (cases : List CaseTree) → EndingTree
  -- `unreachable`
  Unreachable : EndingTree

-- a block, with its label where it has one
pub record BlockTree : Type 0 where
  pub label : Option Local
  pub instructions : List InstructionTree
  pub ending : EndingTree
