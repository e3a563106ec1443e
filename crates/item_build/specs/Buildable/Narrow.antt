-- For `what_is_read_is_narrow`, `items_without_a_break_are_buildable`, `build_instruction` and `resolve`: what the phrases
-- of a text ask for beyond its tree: integer types of 1 to 128 bits, and no result of a store.
use Rattle.std.specs.Prelude.{◌≡◌, ℕ, ◌≤◌, List, All, Option, Some, None}
use Rattle.ir_tables.specs.declared.width.TheConstants.{WIDEST}
use Rattle.ir_phrases.specs.Constants.Tree.{TypeTree, IntegerType, PointerType, VoidType, ArrayType, StructType, NamedType, TypeTrees, no_types, more_types, ConstantTree, IntegerConstant, SimpleConstant, AddressConstant, BytesConstant, ListConstant, ElementAddress, Conversion, Arithmetic, ConstantTrees, no_constants, more_constants, TypedConstantTree, ValueTree, LocalValue, ConstantValue, TypedValueTree}
use Rattle.ir_phrases.specs.Instructions.Tree.{SignatureTree, IncomingTree, OperationTree, Binary, Compare, Cast, Select, Freeze, Phi, Load, Store, Alloca, GetElementPtr, Call, ExtractValue, InsertValue, InstructionTree, CaseTree, EndingTree, ReturnVoid, Return, Jump, Branch, Switch, Unreachable, BlockTree}
use Rattle.ir_syntax.specs.Tree.{BodyTree, OpaqueBody, PlainBody, PackedBody, AliasTypeTree, PlainAlias, FunctionAlias, ParameterTree, ItemTree, Struct, Variable, Alias, Declaration, Definition}

abbrev mutual
  -- each integer type in it has 1 to 128 bits
  pub IsNarrow : TypeTree → Type 0
  IsNarrow (IntegerType place width) = (1 ≤ width) × (width ≤ WIDEST)
  IsNarrow (PointerType place) = Unit {0}
  IsNarrow (VoidType place) = Unit {0}
  IsNarrow (ArrayType place count element) = IsNarrow element
  IsNarrow (StructType place packed parts) = AreNarrow parts
  IsNarrow (NamedType name) = Unit {0}

  -- the same of several types
  pub AreNarrow : TypeTrees → Type 0
  AreNarrow no_types = Unit {0}
  AreNarrow (more_types t ts) = IsNarrow t × AreNarrow ts

abbrev mutual
  -- each integer type that a constant writes has
  pub IsNarrowConstant : ConstantTree → Type 0
  IsNarrowConstant (IntegerConstant written) = Unit {0}
  IsNarrowConstant (SimpleConstant word place) = Unit {0}
  IsNarrowConstant (AddressConstant name) = Unit {0}
  IsNarrowConstant (BytesConstant text) = Unit {0}
  IsNarrowConstant (ListConstant place round elements) = AreNarrowConstants elements
  IsNarrowConstant (ElementAddress place flags source operands) = IsNarrow source × AreNarrowConstants operands
  IsNarrowConstant (Conversion place opcode from value to) = (IsNarrow from × IsNarrowConstant value) × IsNarrow to
  IsNarrowConstant (Arithmetic place opcode flags left_type left right_type right) =
      (IsNarrow left_type × IsNarrowConstant left) × (IsNarrow right_type × IsNarrowConstant right)

  -- the same of several constants and their types
  pub AreNarrowConstants : ConstantTrees → Type 0
  AreNarrowConstants no_constants = Unit {0}
  AreNarrowConstants (more_constants ty c cs) = (IsNarrow ty × IsNarrowConstant c) × AreNarrowConstants cs

-- of a constant with its type
abbrev pub IsNarrowTyped : TypedConstantTree → Type 0
IsNarrowTyped written = IsNarrow written.0 × IsNarrowConstant written.1

-- of a value
abbrev pub IsNarrowValue : ValueTree → Type 0
IsNarrowValue (LocalValue written) = Unit {0}
IsNarrowValue (ConstantValue constant) = IsNarrowConstant constant

-- of a value with its type
abbrev pub IsNarrowOperand : TypedValueTree → Type 0
IsNarrowOperand written = IsNarrow written.0 × IsNarrowValue written.1

-- of the parameters that a call writes
abbrev pub IsNarrowSignature : Option SignatureTree → Type 0
IsNarrowSignature None = Unit {0}
IsNarrowSignature (Some written) = All IsNarrow written.0

-- of the count of an alloca
abbrev pub IsNarrowCount : Option TypedValueTree → Type 0
IsNarrowCount None = Unit {0}
IsNarrowCount (Some written) = IsNarrowOperand written

-- of a value of a phi
abbrev pub IsNarrowIncoming : IncomingTree → Type 0
IsNarrowIncoming written = IsNarrowValue written.0

-- of an operation
abbrev pub IsNarrowOperation : OperationTree → Type 0
IsNarrowOperation (Binary opcode flags left right) = IsNarrowOperand left × IsNarrowValue right
IsNarrowOperation (Compare flags predicate left right) = IsNarrowOperand left × IsNarrowValue right
IsNarrowOperation (Cast opcode flags value to) = IsNarrowOperand value × IsNarrow to
IsNarrowOperation (Select condition first second) = IsNarrowOperand condition × IsNarrowOperand first × IsNarrowOperand second
IsNarrowOperation (Freeze value) = IsNarrowOperand value
IsNarrowOperation (Phi ty incoming) = IsNarrow ty × All IsNarrowIncoming incoming
IsNarrowOperation (Load flags ty address alignment) = IsNarrow ty × IsNarrowOperand address
IsNarrowOperation (Store flags value address alignment) = IsNarrowOperand value × IsNarrowOperand address
IsNarrowOperation (Alloca ty count alignment) = IsNarrow ty × IsNarrowCount count
IsNarrowOperation (GetElementPtr flags source operands) = IsNarrow source × All IsNarrowOperand operands
IsNarrowOperation (Call call) = IsNarrow call.returns × IsNarrowSignature call.signature × IsNarrowValue call.callee × All IsNarrowOperand call.arguments
IsNarrowOperation (ExtractValue aggregate indices) = IsNarrowOperand aggregate
IsNarrowOperation (InsertValue aggregate part indices) = IsNarrowOperand aggregate × IsNarrowOperand part

-- a store has no result
abbrev pub StoresNothing : InstructionTree → Type 0
StoresNothing written = (flags : ℕ) (value address : TypedValueTree) (alignment : _) → written.operation ≡ Store flags value address alignment → written.result ≡ None

-- of an instruction
abbrev pub IsNarrowInstruction : InstructionTree → Type 0
IsNarrowInstruction written = IsNarrowOperation written.operation × StoresNothing written

-- of a case of a switch
abbrev pub IsNarrowCase : CaseTree → Type 0
IsNarrowCase written = IsNarrowTyped written.0

-- of the end of a block
abbrev pub IsNarrowEnding : EndingTree → Type 0
IsNarrowEnding ReturnVoid = Unit {0}
IsNarrowEnding (Return value) = IsNarrowOperand value
IsNarrowEnding (Jump target) = Unit {0}
IsNarrowEnding (Branch condition then_to else_to) = IsNarrowOperand condition
IsNarrowEnding (Switch value otherwise cases) = IsNarrowOperand value × All IsNarrowCase cases
IsNarrowEnding Unreachable = Unit {0}

-- of a block
abbrev pub IsNarrowBlock : BlockTree → Type 0
IsNarrowBlock written = All IsNarrowInstruction written.instructions × IsNarrowEnding written.ending

-- of what a struct is
abbrev pub IsNarrowBody : BodyTree → Type 0
IsNarrowBody OpaqueBody = Unit {0}
IsNarrowBody (PlainBody parts) = All IsNarrow parts
IsNarrowBody (PackedBody parts) = All IsNarrow parts

-- of an initialiser
abbrev pub IsNarrowInitialiser : Option ConstantTree → Type 0
IsNarrowInitialiser None = Unit {0}
IsNarrowInitialiser (Some constant) = IsNarrowConstant constant

-- of the type of an alias
abbrev pub IsNarrowAlias : AliasTypeTree → Type 0
IsNarrowAlias (PlainAlias ty) = IsNarrow ty
IsNarrowAlias (FunctionAlias returns parameters variadic) = IsNarrow returns × All IsNarrow parameters

-- of a parameter
abbrev pub IsNarrowParameter : ParameterTree → Type 0
IsNarrowParameter written = IsNarrow written.0

-- of an item
abbrev pub IsNarrowItem : ItemTree → Type 0
IsNarrowItem (Struct name body) = IsNarrowBody body
IsNarrowItem (Variable variable) = IsNarrow variable.ty × IsNarrowInitialiser variable.initialiser
IsNarrowItem (Alias alias) = IsNarrowAlias alias.ty
IsNarrowItem (Declaration place head parameters variadic) = IsNarrow head.returns × All IsNarrow parameters
IsNarrowItem (Definition place head parameters blocks) = IsNarrow head.returns × All IsNarrowParameter parameters × All IsNarrowBlock blocks
IsNarrowItem _ = Unit {0}

-- of all items
pub record AreItemsNarrow (items : List ItemTree) : Type 0 where
  pub each : All IsNarrowItem items
