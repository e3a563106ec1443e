-- For all calls of `Arena` and `Checked`: a module as plain data (LangRef, "Module Structure"): names as bytes, types and constants as
-- trees, no ids.
-- Everything meets here: a text and a bitcode stand for a module, an arena holds one, validity is a property of
-- one, linking and extraction give one, and a run is of some. `Block`, `Case` and `Ending` here are those of a module:
-- those of a text are in `ir_phrases::instructions`, those of an arena in `src/entry.rt` and `src/instruction.rt`.
use Rattle.std.specs.Prelude.{ℕ, Bool, List, [], Option}
use Rattle.ir_tables.specs.declared.linkage.Linkage.{Linkage}
use Rattle.ir_tables.specs.declared.opcode.Opcode.{Opcode}
use Rattle.ir_tables.specs.declared.predicate.Predicate.{Predicate}
use Rattle.type_table.specs.Tree.{Tree, Structs}

-- a name or a text
abbrev pub Bytes : Type 0
Bytes = List ℕ

-- what a parameter, a block or a result is called within its function
pub data LocalName : Type 0 where
  Named : (name : Bytes) → LocalName
  Numbered : (number : ℕ) → LocalName

-- the brackets round a list of constants: `[ ]`, `{ }`, `<{ }>`
pub data Brackets : Type 0 where
  Square : Brackets
  Braces : Brackets
  Packed : Brackets

mutual
  -- A constant (LangRef, "Constants"). Flags are the sum of their codes.
  pub data Constant : Type 0 where
    -- at iN the number modulo 2^N, at any other type modulo 2^128; at i1 `true` is 1 and `false` is 0
    Integer : (number : ℕ) → Constant
    -- `true` or `false` at a type other than i1, which no valid module has
    Truth : (truth : Bool) → Constant
    Null : Constant
    Undef : Constant
    Poison : Constant
    ZeroInitializer : Constant
    -- the address of the variable, alias or function of that name
    Address : (global : Bytes) → Constant
    -- c"..."
    ByteString : (bytes : Bytes) → Constant
    -- constants in brackets, each with its type
    Aggregate : (brackets : Brackets) → (elements : Constants) → Constant
    -- getelementptr: flags, source type, and the base with the indices behind it
    ElementAddress : (flags : ℕ) → (source : Tree) → (operands : Constants) → Constant
    -- ptrtoint, inttoptr or trunc
    Cast : (opcode : Opcode) → (from : Tree) → (value : Constant) → (to : Tree) → Constant
    -- add, sub or xor
    Binary : (opcode : Opcode) → (flags : ℕ) → (left_type : Tree) → (left : Constant) → (right_type : Tree) → (right : Constant) → Constant

  -- constants, each with the type that is written before it
  pub data Constants : Type 0 where
    no_constants : Constants
    more_constants : Tree → Constant → Constants → Constants

-- what an instruction works on: a parameter or result of its function, or a constant
pub data Value : Type 0 where
  Local : (name : LocalName) → Value
  Known : (constant : Constant) → Value

-- a value and the type that is written before it
pub record Operand : Type 0 where
  pub ty : Tree
  pub value : Value

-- a value of a phi, and the block that it comes from
pub record Incoming : Type 0 where
  pub value : Value
  pub block : LocalName

-- a function type, written whole
pub record Signature : Type 0 where
  pub returns : Tree
  pub parameters : List Tree
  pub variadic : Bool

-- What an instruction does (LangRef, "Instruction Reference"), by its phrase: the parts in their order, with the types
-- that are written. Flags are the sum of their codes.
pub data Operation : Type 0 where
  -- an operation on two operands, whose type is that of the left one
  BinaryOperation : (opcode : Opcode) → (flags : ℕ) → (left : Operand) → (right : Value) → Operation
  -- icmp: whether the predicate holds of the two operands
  Compare : (flags : ℕ) → (predicate : Predicate) → (left : Operand) → (right : Value) → Operation
  -- a cast of the value to that type
  Convert : (opcode : Opcode) → (flags : ℕ) → (value : Operand) → (to : Tree) → Operation
  -- select: the first value where the condition is true, the second where it is false
  Select : (condition : Operand) → (first second : Operand) → Operation
  -- freeze: the value, with some fixed one in place of each that is poison
  Freeze : (value : Operand) → Operation
  -- phi: the value beside the block that control came from
  Phi : (ty : Tree) → (incoming : List Incoming) → Operation
  -- load: the value of that type at the address; the alignment where it is written
  Load : (flags : ℕ) → (ty : Tree) → (address : Operand) → (alignment : Option ℕ) → Operation
  -- store: the value is put at the address; the alignment where it is written
  Store : (flags : ℕ) → (value : Operand) → (address : Operand) → (alignment : Option ℕ) → Operation
  -- alloca: memory for a value of that type, or for so many; the count and the alignment where they are written
  Alloca : (ty : Tree) → (count : Option Operand) → (alignment : Option ℕ) → Operation
  -- getelementptr: the address of what the indices lead to, from the base on, by the source type
  GetElementPtr : (flags : ℕ) → (source : Tree) → (base : Operand) → (indices : List Operand) → Operation
  -- call: the callee is called at that function type, with the arguments
  Call : (signature : Signature) → (callee : Value) → (arguments : List Operand) → Operation
  -- extractvalue: the part of the aggregate that the indices lead to
  ExtractValue : (aggregate : Operand) → (indices : List ℕ) → Operation
  -- insertvalue: the aggregate, with that part where the indices lead to
  InsertValue : (aggregate : Operand) → (part : Operand) → (indices : List ℕ) → Operation

-- an instruction, and what its result is called where it has one
pub record Instruction : Type 0 where
  pub result : Option LocalName
  pub operation : Operation

-- a case of a switch, and where it goes
pub record Case : Type 0 where
  pub ty : Tree
  pub value : Constant
  pub target : LocalName

-- how a block ends (LangRef, "Terminator Instructions")
pub data Ending : Type 0 where
  -- ret void: the function is left, and gives nothing
  ReturnVoid : Ending
  -- ret: the function is left, and gives the value
  Return : (value : Operand) → Ending
  -- br: to that block
  Jump : (target : LocalName) → Ending
  -- br: to the one block where the condition is true, to the other where it is false
  Branch : (condition : Operand) → (then_to else_to : LocalName) → Ending
  -- switch: to the target of the case that has the value, and otherwise where none has it
  Switch : (value : Operand) → (otherwise : LocalName) → (cases : List Case) → Ending
  -- unreachable: to come here is undefined
  Unreachable : Ending

-- a block: a name, instructions, and exactly one end
pub record Block : Type 0 where
  pub name : LocalName
  pub instructions : List Instruction
  pub ending : Ending

-- a parameter
pub record Parameter : Type 0 where
  pub ty : Tree
  pub name : LocalName

-- a variable (LangRef, "Global Variables"); a declaration has no initialiser
pub record Variable : Type 0 where
  pub name : Bytes
  pub linkage : Linkage
  pub constant : Bool
  pub ty : Tree
  pub alignment : Option ℕ
  pub initialiser : Option Constant

-- what an alias says of its target: the type of a variable, or that of a function
pub data AliasType : Type 0 where
  PlainType : (ty : Tree) → AliasType
  FunctionType : (signature : Signature) → AliasType

-- a further name of a variable or function of the module (LangRef, "Aliases"); it is a definition
pub record Alias : Type 0 where
  pub name : Bytes
  pub linkage : Linkage
  pub ty : AliasType
  pub target : Bytes

-- a function; a declaration has no blocks
pub record Function : Type 0 where
  pub name : Bytes
  pub linkage : Linkage
  pub returns : Tree
  pub parameters : List Parameter
  pub variadic : Bool
  pub body : Option (List Block)

-- A module: its texts, and its structs, variables, aliases and functions, each in the order of the text.
pub record Module : Type 0 where
  pub source : Option Bytes
  pub layout : Option Bytes
  pub triple : Option Bytes
  pub structs : Structs
  pub variables : List Variable
  pub aliases : List Alias
  pub functions : List Function

-- the module without entries
abbrev pub empty_module : Module
empty_module = record { source = Option.None; layout = Option.None; triple = Option.None; structs = []; variables = []; aliases = []; functions = [] }
