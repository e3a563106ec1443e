-- For `named_by_kept`, `missing_name`, and `copy_constants` and `copy_body` of `Copier`: the variables and functions that are named in a
-- constant, an instruction, an initialiser or a body.
use Rattle.std.specs.Prelude.{List, [], ◌∷◌, ◌++◌, flat_map}
use Rattle.std.specs.Option.{option_map_or}
use Rattle.module_arena.specs.Module.{Bytes, Constant, Integer, Truth, Null, Undef, Poison, ZeroInitializer, Address, ByteString, Aggregate, ElementAddress, Cast, Binary, Constants, no_constants, more_constants, Value, Local, Known, Operand, Incoming, Operation, BinaryOperation, Compare, Convert, Select, Freeze, Phi, Load, Store, Alloca, GetElementPtr, Call, ExtractValue, InsertValue, Instruction, Case, Ending, ReturnVoid, Return, Jump, Branch, Switch, Unreachable, Block, Variable, Function}

abbrev mutual
  -- the entries that a constant names
  pub names_in_constant : Constant → List Bytes
  names_in_constant (Integer number) = []
  names_in_constant (Truth truth) = []
  names_in_constant Null = []
  names_in_constant Undef = []
  names_in_constant Poison = []
  names_in_constant ZeroInitializer = []
  names_in_constant (Address global) = global ∷ []
  names_in_constant (ByteString bytes) = []
  names_in_constant (Aggregate shape elements) = names_in_constants elements
  names_in_constant (ElementAddress flags source operands) = names_in_constants operands
  names_in_constant (Cast opcode from value to) = names_in_constant value
  names_in_constant (Binary opcode flags left_type left right_type right) = names_in_constant left ++ names_in_constant right

  -- those that several constants name
  pub names_in_constants : Constants → List Bytes
  names_in_constants no_constants = []
  names_in_constants (more_constants ty constant others) = names_in_constant constant ++ names_in_constants others

-- the entries that a value names
abbrev pub names_in_value : Value → List Bytes
names_in_value (Local name) = []
names_in_value (Known constant) = names_in_constant constant

-- those that an operand names
abbrev pub names_in_operand : Operand → List Bytes
names_in_operand o = names_in_value o.value

-- those that a value of a phi names
abbrev pub names_in_incoming : Incoming → List Bytes
names_in_incoming i = names_in_value i.value

-- those that an operation names
abbrev pub names_in_operation : Operation → List Bytes
names_in_operation (BinaryOperation opcode flags left right) = names_in_operand left ++ names_in_value right
names_in_operation (Compare flags predicate left right) = names_in_operand left ++ names_in_value right
names_in_operation (Convert opcode flags value to) = names_in_operand value
names_in_operation (Select condition first second) = names_in_operand condition ++ (names_in_operand first ++ names_in_operand second)
names_in_operation (Freeze value) = names_in_operand value
names_in_operation (Phi ty incoming) = flat_map names_in_incoming incoming
names_in_operation (Load flags ty address alignment) = names_in_operand address
names_in_operation (Store flags value address alignment) = names_in_operand value ++ names_in_operand address
names_in_operation (Alloca ty count alignment) = option_map_or names_in_operand count []
names_in_operation (GetElementPtr flags source base indices) = names_in_operand base ++ flat_map names_in_operand indices
names_in_operation (Call signature callee arguments) = names_in_value callee ++ flat_map names_in_operand arguments
names_in_operation (ExtractValue aggregate indices) = names_in_operand aggregate
names_in_operation (InsertValue aggregate part indices) = names_in_operand aggregate ++ names_in_operand part

-- those that an instruction names
abbrev pub names_in_instruction : Instruction → List Bytes
names_in_instruction i = names_in_operation i.operation

-- those that a case names
abbrev pub names_in_case : Case → List Bytes
names_in_case c = names_in_constant c.value

-- those that an end names
abbrev pub names_in_ending : Ending → List Bytes
names_in_ending ReturnVoid = []
names_in_ending (Return value) = names_in_operand value
names_in_ending (Jump target) = []
names_in_ending (Branch condition then_to else_to) = names_in_operand condition
names_in_ending (Switch value otherwise cases) = names_in_operand value ++ flat_map names_in_case cases
names_in_ending Unreachable = []

-- those that a block names
abbrev pub names_in_block : Block → List Bytes
names_in_block b = flat_map names_in_instruction b.instructions ++ names_in_ending b.ending

-- the names in its initialiser
abbrev pub names_in_variable : Variable → List Bytes
names_in_variable v = option_map_or names_in_constant v.initialiser []

-- the names in its body
abbrev pub names_in_function : Function → List Bytes
names_in_function f = option_map_or (flat_map names_in_block) f.body []
