-- For `tokens_are_items` and `items_stand_for_their_module`: types, constants, instructions and blocks of a module as
-- canonical text writes them, with no places.
use Rattle.std.specs.Prelude.{ℕ, ◌-◌, ◌^◌, ◌==◌, nat_lt, Bool, true, false, List, [], ◌∷◌, map, Option, Some, None, option_map, if◌then◌else◌}
use Rattle.ir_tables.specs.declared.width.TheConstants.{WIDEST}
use Rattle.ir_terminals.specs.declared.values.Integer.{Integer}
use Rattle.ir_terminals.specs.declared.values.PlacedName.{PlacedName}
use Rattle.ir_terminals.specs.declared.values.Local.{Local}
use Rattle.ir_terminals.specs.declared.values.Local.TheVariants as locals
use Rattle.ir_phrases.specs.declared.constants.constant.Simple.TheVariants as simple
use Rattle.ir_phrases.specs.declared.constants.constant.Brackets as the_brackets
use Rattle.ir_phrases.specs.declared.constants.constant.Brackets.TheVariants as brackets
use Rattle.ir_phrases.specs.Constants.Tree.{TypeTree, IntegerType, PointerType, VoidType, ArrayType, StructType, NamedType, TypeTrees, no_types, more_types, ConstantTree, IntegerConstant, SimpleConstant, AddressConstant, BytesConstant, ListConstant, Conversion, Arithmetic, ConstantTrees, ValueTree, LocalValue, ConstantValue, TypedValueTree}
use Rattle.ir_phrases.specs.Constants.Tree as tree
use Rattle.ir_phrases.specs.Instructions.Tree as code
use Rattle.type_table.specs.Tree.{Tree, int, ptr, void, array, struct, named, Trees, no_trees, more_trees}
use Rattle.module_arena.specs.Module.{Bytes, LocalName, Named, Numbered, Brackets, Square, Braces, Packed, Constant, Truth, Null, Undef, Poison, ZeroInitializer, Address, ByteString, Aggregate, ElementAddress, Cast, Binary, Constants, no_constants, more_constants, Value, Known, Operand, Incoming, Signature, Operation, BinaryOperation, Compare, Convert, Select, Freeze, Phi, Load, Store, Alloca, GetElementPtr, Call, ExtractValue, InsertValue, Instruction, Case, Ending, ReturnVoid, Return, Jump, Branch, Switch, Unreachable, Block}
use Rattle.module_arena.specs.Module as mod_
use Rattle.canonical.specs.Items.Unplaced.{nowhere}

-- a number without a sign
abbrev pub natural : ℕ → Integer
natural n = record { negative = false; magnitude = n; place = nowhere }

-- of a number modulo 2 to the width, the one of least magnitude: negative from the half on
abbrev pub signed : ℕ → ℕ → Integer
signed width n = if nat_lt n (2 ^ (width - 1)) then natural n else record { negative = true; magnitude = 2 ^ width - n; place = nowhere }

-- a name
abbrev pub name_tree : Bytes → PlacedName
name_tree name = record { name = name; place = nowhere }

-- a local, named or numbered
abbrev pub local_tree : LocalName → Local
local_tree (Named name) = locals.Named (name_tree name)
local_tree (Numbered n) = locals.Numbered n nowhere

abbrev mutual
  -- a type
  pub type_tree : Tree → TypeTree
  type_tree (int width) = IntegerType nowhere width
  type_tree ptr = PointerType nowhere
  type_tree void = VoidType nowhere
  type_tree (array count element) = ArrayType nowhere (natural count) (type_tree element)
  type_tree (struct packed fields) = StructType nowhere packed (type_trees fields)
  type_tree (named name) = NamedType (name_tree name)

  -- types, in order
  pub type_trees : Trees → TypeTrees
  type_trees no_trees = no_types
  type_trees (more_trees t ts) = more_types (type_tree t) (type_trees ts)

-- the same, as a list
abbrev pub type_list : Trees → List TypeTree
type_list no_trees = []
type_list (more_trees t ts) = type_tree t ∷ type_list ts

-- `true` or `false`
abbrev pub truth_tree : Bool → ConstantTree
truth_tree true = SimpleConstant simple.True nowhere
truth_tree false = SimpleConstant simple.False nowhere

-- an integer at a type: signed, and at i1 `true` or `false`
abbrev pub integer_tree : Tree → ℕ → ConstantTree
integer_tree (int width) n = if width == 1 then truth_tree (n == 1) else IntegerConstant (signed width n)
integer_tree _ n = IntegerConstant (signed WIDEST n)

-- the brackets of a list of constants
abbrev pub brackets_tree : Brackets → the_brackets.Brackets
brackets_tree Square = brackets.Square
brackets_tree Braces = brackets.Braces
brackets_tree Packed = brackets.Packed

abbrev mutual
  -- a constant at this type
  pub constant_tree : Tree → Constant → ConstantTree
  constant_tree ty (mod_.Integer n) = integer_tree ty n
  constant_tree ty (Truth b) = truth_tree b
  constant_tree ty Null = SimpleConstant simple.Null nowhere
  constant_tree ty Undef = SimpleConstant simple.Undef nowhere
  constant_tree ty Poison = SimpleConstant simple.Poison nowhere
  constant_tree ty ZeroInitializer = SimpleConstant simple.ZeroInitializer nowhere
  constant_tree ty (Address name) = AddressConstant (name_tree name)
  constant_tree ty (ByteString bytes) = BytesConstant (record { text = bytes; place = nowhere })
  constant_tree ty (Aggregate kind elements) = ListConstant nowhere (brackets_tree kind) (constant_trees elements)
  constant_tree ty (ElementAddress flags source operands) = tree.ElementAddress nowhere flags (type_tree source) (constant_trees operands)
  constant_tree ty (Cast opcode from value to) = Conversion nowhere opcode (type_tree from) (constant_tree from value) (type_tree to)
  constant_tree ty (Binary opcode flags left_type left right_type right) =
      Arithmetic nowhere opcode flags
      (type_tree left_type) (constant_tree left_type left) (type_tree right_type) (constant_tree right_type right)

  -- constants, each behind its type
  pub constant_trees : Constants → ConstantTrees
  constant_trees no_constants = tree.no_constants
  constant_trees (more_constants ty c cs) = tree.more_constants (type_tree ty) (constant_tree ty c) (constant_trees cs)

-- a value at this type
abbrev pub value_tree : Tree → Value → ValueTree
value_tree ty (mod_.Local name) = LocalValue (local_tree name)
value_tree ty (Known c) = ConstantValue (constant_tree ty c)

-- a value behind its type
abbrev pub operand_tree : Operand → TypedValueTree
operand_tree o = (type_tree o.ty, value_tree o.ty o.value)

-- an entry of a phi, at its type
abbrev pub incoming_tree : Tree → Incoming → code.IncomingTree
incoming_tree ty i = (value_tree ty i.value, local_tree i.block)

-- the function type of a call, which is written where it is variadic
abbrev pub signature_tree : List Tree → Bool → Option code.SignatureTree
signature_tree parameters false = None
signature_tree parameters true = Some (map type_tree parameters, true)

-- a call
abbrev pub call_tree : Signature → Value → List Operand → code.CallTree
call_tree s callee arguments = record {
  returns = type_tree s.returns;
  signature = signature_tree s.parameters s.variadic;
  callee = value_tree ptr callee;
  arguments = map operand_tree arguments;
}

-- what an instruction does
abbrev pub operation_tree : Operation → code.OperationTree
operation_tree (BinaryOperation opcode flags left right) = code.Binary opcode flags (operand_tree left) (value_tree left.ty right)
operation_tree (Compare flags predicate left right) = code.Compare flags predicate (operand_tree left) (value_tree left.ty right)
operation_tree (Convert opcode flags value to) = code.Cast opcode flags (operand_tree value) (type_tree to)
operation_tree (Select condition first second) = code.Select (operand_tree condition) (operand_tree first) (operand_tree second)
operation_tree (Freeze value) = code.Freeze (operand_tree value)
operation_tree (Phi ty incoming) = code.Phi (type_tree ty) (map (incoming_tree ty) incoming)
operation_tree (Load flags ty address alignment) = code.Load flags (type_tree ty) (operand_tree address) (option_map natural alignment)
operation_tree (Store flags value address alignment) = code.Store flags (operand_tree value) (operand_tree address) (option_map natural alignment)
operation_tree (Alloca ty count alignment) = code.Alloca (type_tree ty) (option_map operand_tree count) (option_map natural alignment)
operation_tree (GetElementPtr flags source base indices) = code.GetElementPtr flags (type_tree source) (operand_tree base ∷ map operand_tree indices)
operation_tree (Call signature callee arguments) = code.Call (call_tree signature callee arguments)
operation_tree (ExtractValue aggregate indices) = code.ExtractValue (operand_tree aggregate) (map natural indices)
operation_tree (InsertValue aggregate part indices) = code.InsertValue (operand_tree aggregate) (operand_tree part) (map natural indices)

-- an instruction
abbrev pub instruction_tree : Instruction → code.InstructionTree
instruction_tree i = record { result = option_map local_tree i.result; operation = operation_tree i.operation }

-- a case of a switch
abbrev pub case_tree : Case → code.CaseTree
case_tree c = ((type_tree c.ty, constant_tree c.ty c.value), local_tree c.target)

-- the end of a block
abbrev pub ending_tree : Ending → code.EndingTree
ending_tree ReturnVoid = code.ReturnVoid
ending_tree (Return value) = code.Return (operand_tree value)
ending_tree (Jump to) = code.Jump (local_tree to)
ending_tree (Branch condition then_to else_to) = code.Branch (operand_tree condition) (local_tree then_to) (local_tree else_to)
ending_tree (Switch value otherwise cases) = code.Switch (operand_tree value) (local_tree otherwise) (map case_tree cases)
ending_tree Unreachable = code.Unreachable

-- each block with its name
abbrev pub block_tree : Block → code.BlockTree
block_tree b = record { label = Some (local_tree b.name); instructions = map instruction_tree b.instructions; ending = ending_tree b.ending }
