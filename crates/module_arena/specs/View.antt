-- For all calls of `Arena`: the module that the lists of an arena stand for.
use Rattle.std.specs.Prelude.{◌≡◌, ℕ, ◌<◌, List, [], ◌∷◌, ◌++◌, length, map, Some, None, slice_index_or}
use Rattle.std.specs.List.{fold}
use Rattle.std.specs.Option.{option_map, option_map_or}
use Rattle.type_table.specs.Tree.{Tree, void}
use Rattle.type_table.specs.Types.{trees, structs}
use Rattle.module_arena.specs.declared.constant.Brackets as the_brackets
use Rattle.module_arena.specs.declared.constant.Brackets.TheVariants as brackets
use Rattle.module_arena.specs.declared.constant.Const as the_const
use Rattle.module_arena.specs.declared.constant.Const.TheVariants as const
use Rattle.module_arena.specs.declared.constant.TypedConst.{TypedConst}
use Rattle.module_arena.specs.declared.entry.GlobalId.{GlobalId}
use Rattle.module_arena.specs.declared.entry.LocalName as the_local
use Rattle.module_arena.specs.declared.entry.LocalName.TheVariants as local
use Rattle.module_arena.specs.declared.entry.Variable as the_variable
use Rattle.module_arena.specs.declared.entry.Alias as the_alias
use Rattle.module_arena.specs.declared.entry.AliasType as the_alias_type
use Rattle.module_arena.specs.declared.entry.AliasType.TheVariants as alias_type
use Rattle.module_arena.specs.declared.entry.Parameter as the_parameter
use Rattle.module_arena.specs.declared.entry.Block as the_block
use Rattle.module_arena.specs.declared.entry.Body as the_body
use Rattle.module_arena.specs.declared.entry.Function as the_function
use Rattle.module_arena.specs.declared.instruction.Value as the_value
use Rattle.module_arena.specs.declared.instruction.Value.TheVariants as value
use Rattle.module_arena.specs.declared.instruction.Operand as the_operand
use Rattle.module_arena.specs.declared.instruction.Signature as the_signature
use Rattle.module_arena.specs.declared.instruction.Case as the_case
use Rattle.module_arena.specs.declared.instruction.Incoming as the_incoming
use Rattle.module_arena.specs.declared.instruction.Inst.{Inst}
use Rattle.module_arena.specs.declared.instruction.Inst.TheVariants as inst
use Rattle.module_arena.specs.declared.instruction.Ending as the_ending
use Rattle.module_arena.specs.declared.instruction.Ending.TheVariants as ending
use Rattle.module_arena.specs.Lists.{Lists, name_at}
use Rattle.module_arena.specs.Module.{Bytes, LocalName, Brackets, Constant, Constants, Value, Operand, Incoming, Signature, Operation, Instruction, Case, Ending, Block, Parameter, Variable, AliasType, Alias, Function, Module}
use Rattle.module_arena.specs.Module.Constants.{no_constants, more_constants}

-- the brackets that are meant
abbrev pub brackets_view : the_brackets.Brackets → Brackets
brackets_view brackets.Square = Brackets.Square
brackets_view brackets.Braces = Brackets.Braces
brackets_view brackets.Packed = Brackets.Packed

-- the local name that is meant
abbrev pub local_view : the_local.LocalName → LocalName
local_view (local.Named name) = LocalName.Named name
local_view (local.Numbered number) = LocalName.Numbered number

-- ---- constants: each has earlier ones in it, so one pass gives them all

-- the constant with that number
abbrev pub constant_at : List Constant → ℕ → Constant
constant_at done id = slice_index_or done id Constant.Null

module _ (types : List Tree) where
  -- the type with that id
  abbrev pub type_at : ℕ → Tree
  type_at id = slice_index_or types id void

  -- constants with their types
  abbrev pub constants_at : List Constant → List TypedConst → Constants
  constants_at done [] = no_constants
  constants_at done (c ∷ cs) = more_constants (type_at c.ty) (constant_at done c.value) (constants_at done cs)

  -- a constant, where those before it are known
  abbrev pub constant_view : (GlobalId → Bytes) → List Constant → the_const.Const → Constant
  constant_view names done (const.Integer number) = Constant.Integer number
  constant_view names done (const.Truth truth) = Constant.Truth truth
  constant_view names done const.Null = Constant.Null
  constant_view names done const.Undef = Constant.Undef
  constant_view names done const.Poison = Constant.Poison
  constant_view names done const.ZeroInitializer = Constant.ZeroInitializer
  constant_view names done (const.Address g) = Constant.Address (names g)
  constant_view names done (const.ByteString bytes) = Constant.ByteString bytes
  constant_view names done (const.Aggregate round elements) = Constant.Aggregate (brackets_view round) (constants_at done elements)
  constant_view names done (const.ElementAddress flags address) = Constant.ElementAddress flags (type_at address.source) (constants_at done address.operands)
  constant_view names done (const.Cast opcode operand to) = Constant.Cast opcode (type_at operand.ty) (constant_at done operand.value) (type_at to)
  constant_view names done (const.Binary opcode flags pair) =
      Constant.Binary opcode flags (type_at pair.left.ty) (constant_at done pair.left.value) (type_at pair.right.ty) (constant_at done pair.right.value)

  -- constants with one more behind them
  abbrev pub grow : (GlobalId → Bytes) → List Constant → the_const.Const → List Constant
  grow names done c = done ++ constant_view names done c ∷ []

  -- ---- entries

  -- a variable
  abbrev pub variable_view : List Constant → the_variable.Variable → Variable
  variable_view constants v = record {
    name = v.name;
    linkage = v.linkage;
    constant = v.constant;
    ty = type_at v.ty;
    alignment = v.alignment;
    initialiser = option_map (constant_at constants) v.initialiser;
  }

  -- a signature
  abbrev pub signature_view : the_signature.Signature → Signature
  signature_view s = record { returns = type_at s.returns; parameters = map type_at s.parameters; variadic = s.variadic }

  -- the type of an alias
  abbrev pub alias_type_view : the_alias_type.AliasType → AliasType
  alias_type_view (alias_type.Plain ty) = AliasType.PlainType (type_at ty)
  alias_type_view (alias_type.Function returns parameters variadic) =
      AliasType.FunctionType (record { returns = type_at returns; parameters = map type_at parameters; variadic = variadic })

  -- an alias
  abbrev pub alias_view : (GlobalId → Bytes) → the_alias.Alias → Alias
  alias_view names x = record { name = x.name; linkage = x.linkage; ty = alias_type_view x.ty; target = option_map_or names x.target [] }

  -- a parameter
  abbrev pub parameter_view : the_parameter.Parameter → Parameter
  parameter_view p = record { ty = type_at p.ty; name = local_view p.name }

  -- ---- instructions, from the names of the values and of the blocks

  module _ (constants : List Constant) (values blocks : List LocalName) where
    -- what the value with that id is called
    abbrev pub value_name : ℕ → LocalName
    value_name id = slice_index_or values id (LocalName.Numbered 0)

    -- what the block with that id is called
    abbrev pub block_name : ℕ → LocalName
    block_name id = slice_index_or blocks id (LocalName.Numbered 0)

    -- a value
    abbrev pub value_view : the_value.Value → Value
    value_view (value.Local id) = Value.Local (value_name id)
    value_view (value.Known id) = Value.Known (constant_at constants id)

    -- an operand
    abbrev pub operand_view : the_operand.Operand → Operand
    operand_view o = record { ty = type_at o.ty; value = value_view o.value }

    -- an entry of a phi
    abbrev pub incoming_view : the_incoming.Incoming → Incoming
    incoming_view i = record { value = value_view i.value; block = block_name i.block }

    -- a case of a `switch`
    abbrev pub case_view : the_case.Case → Case
    case_view c = record { ty = type_at c.ty; value = constant_at constants c.value; target = block_name c.target }

    -- an operation with its result
    abbrev pub gives : ℕ → Operation → Instruction
    gives result operation = record { result = Some (value_name result); operation = operation }

    -- an instruction
    abbrev pub inst_view : Inst → Instruction
    inst_view (inst.Binary opcode flags result left right) = gives result (Operation.BinaryOperation opcode flags (operand_view left) (value_view right))
    inst_view (inst.Compare flags predicate result left right) = gives result (Operation.Compare flags predicate (operand_view left) (value_view right))
    inst_view (inst.Convert opcode flags result operand to) = gives result (Operation.Convert opcode flags (operand_view operand) (type_at to))
    inst_view (inst.Select result choice) = gives result (Operation.Select (operand_view choice.condition) (operand_view choice.first) (operand_view choice.second))
    inst_view (inst.Freeze result operand) = gives result (Operation.Freeze (operand_view operand))
    inst_view (inst.Phi result ty incoming) = gives result (Operation.Phi (type_at ty) (map incoming_view incoming))
    inst_view (inst.Load flags result ty address alignment) = gives result (Operation.Load flags (type_at ty) (operand_view address) alignment)
    inst_view (inst.Store flags stored address alignment) =
        record {
          result = None;
          operation = Operation.Store flags (operand_view stored) (operand_view address) alignment;
        }
    inst_view (inst.Alloca result ty count alignment) = gives result (Operation.Alloca (type_at ty) (option_map operand_view count) alignment)
    inst_view (inst.GetElementPtr flags result source base indices) =
        gives result (Operation.GetElementPtr flags (type_at source) (operand_view base) (map operand_view indices))
    inst_view (inst.Call call) = record {
      result = option_map value_name call.result;
      operation = Operation.Call (signature_view call.signature) (value_view call.callee) (map operand_view call.arguments);
    }
    inst_view (inst.ExtractValue result aggregate indices) = gives result (Operation.ExtractValue (operand_view aggregate) indices)
    inst_view (inst.InsertValue result insertion) =
        gives result
        (Operation.InsertValue (operand_view insertion.aggregate) (operand_view insertion.part) insertion.indices)

    -- the end of a block
    abbrev pub ending_view : the_ending.Ending → Ending
    ending_view ending.ReturnVoid = Ending.ReturnVoid
    ending_view (ending.Return operand) = Ending.Return (operand_view operand)
    ending_view (ending.Jump target) = Ending.Jump (block_name target)
    ending_view (ending.Branch condition then_to else_to) = Ending.Branch (operand_view condition) (block_name then_to) (block_name else_to)
    ending_view (ending.Switch operand otherwise cases) = Ending.Switch (operand_view operand) (block_name otherwise) (map case_view cases)
    ending_view ending.Unreachable = Ending.Unreachable

    -- a block
    abbrev pub block_view : the_block.Block → Block
    block_view b = record { name = local_view b.name; instructions = map inst_view b.instructions; ending = ending_view b.end }

  -- the blocks of a body, behind its function's parameters
  abbrev pub body_view : List Constant → List LocalName → the_body.Body → List Block
  body_view constants parameters b =
      map (block_view constants (parameters ++ map local_view b.results) (map (λ block. local_view block.name) b.blocks)) b.blocks

  -- a function
  abbrev pub function_view : List Constant → the_function.Function → Function
  function_view constants f = record {
    name = f.name;
    linkage = f.linkage;
    returns = type_at f.result;
    parameters = map parameter_view f.parameters;
    variadic = f.variadic;
    body = option_map (body_view constants (map (λ p. local_view p.name) f.parameters)) f.body;
  }

-- ---- the whole

-- the constants of the lists, by their numbers
abbrev pub constants_of : Lists → List Constant
constants_of a = fold (grow (trees a.table) (name_at a)) [] a.constants

-- the module that the lists stand for
unfoldable pub module_of : Lists → Module
module_of a = record {
  source = a.source;
  layout = a.layout;
  triple = a.triple;
  structs = structs a.table;
  variables = map (variable_view (trees a.table) (constants_of a)) a.variables;
  aliases = map (alias_view (trees a.table) (name_at a)) a.aliases;
  functions = map (function_view (trees a.table) (constants_of a)) a.functions;
}

-- the id is that of this constant
pub record IsConstant (a : Lists) (id : ℕ) (c : Constant) : Type 0 where
  pub known : id < length a.constants
  pub constant : constant_at (constants_of a) id ≡ c
