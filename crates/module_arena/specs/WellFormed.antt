-- For `Checked::seal`: when a module is well formed: names and numbers, references, ranges and limits are in order. What is asked of it beyond
-- that is a matter of validity.
use Rattle.std.specs.Prelude.{ℕ, ◌+◌, ◌^◌, max, Bool, true, false, not, ◌&&◌, ◌||◌, nat_le, nat_lt, bytes_eq, IsTrue, List, [], ◌∷◌, ◌++◌, map, flat_map, length, Option, Some, None, option_to_list}
use Rattle.std.specs.List.{list_all, list_any}
use Rattle.std.specs.Option.{option_map_or}
use Rattle.ir_tables.specs.Table.{is_distinct}
use Rattle.ir_tables.specs.declared.width.TheConstants.{WIDEST}
use Rattle.type_table.specs.declared.measure.TheConstants.{NESTING_LIMIT, PARTS_LIMIT, SIZE_LIMIT}
use Rattle.type_table.specs.Layout.{has_layout, size}
use Rattle.type_table.specs.Limits.{array_length}
use Rattle.type_table.specs.Shape.{Shape, shape, nesting, parts}
use Rattle.type_table.specs.Tree.{Tree, int, ptr, void, array, struct, named, Trees, no_trees, more_trees, TreeBody, opaque_body, fields, Structs}
use Rattle.module_arena.specs.declared.arena.TheConstants.{COUNT_LIMIT}
use Rattle.module_arena.specs.Module.{Bytes, Constant, Constants, Value, Operand, Operation, Block, Variable, AliasType, Alias, Function, Module}
use Rattle.module_arena.specs.Module.Constant.{Integer, Truth, Address, ByteString, Aggregate, ElementAddress, Cast, Binary}
use Rattle.module_arena.specs.Module.Constants.{no_constants, more_constants}
use Rattle.module_arena.specs.Module.Value.{Local, Known}
use Rattle.module_arena.specs.Module.AliasType.{PlainType, FunctionType}
use Rattle.module_arena.specs.Module.Operation.{Convert, Phi, Load, Alloca, GetElementPtr, Call}
use Rattle.module_arena.specs.TypeTests.{is_integer_of}
use Rattle.module_arena.specs.Constants.{Typed, constants_in}
use Rattle.module_arena.specs.Operations.{operands, ending_operands, callee}
use Rattle.module_arena.specs.Functions.{blocks, variable_names, alias_names, function_names}
use Rattle.module_arena.specs.Forms.{is_not_empty, is_instruction_of_phrase, is_constant_of_phrase, is_small_alignment}
use Rattle.module_arena.specs.Names.{are_bytes, is_name, has_good_names}

-- the names of the structs
abbrev pub struct_names : Module → List Bytes
struct_names m = map (λ s. s.0) m.structs

-- one name space
abbrev pub global_names : Module → List Bytes
global_names m = variable_names m ++ (alias_names m ++ function_names m)

-- names, no two the same
abbrev pub are_good_names : List Bytes → Bool
are_good_names names = list_all is_name names && is_distinct bytes_eq names

-- ---- types

-- no deeper, of no more parts, and of no more elements and bytes than the limits of types
abbrev pub is_within_limits : Option Shape → Bool
is_within_limits None = false
is_within_limits (Some s) =
    nat_le (nesting s) NESTING_LIMIT
    && (nat_le (parts s) PARTS_LIMIT && (nat_le (array_length s) SIZE_LIMIT && (not (has_layout s) || nat_le (size s) SIZE_LIMIT)))

abbrev mutual
  -- widths are from 1 to 128, structs are those of the module, and the type and each type written in it is within the limits
  pub is_good_type : Structs → Tree → Bool
  is_good_type structs (int width) = nat_le 1 width && nat_le width WIDEST
  is_good_type structs ptr = true
  is_good_type structs void = true
  is_good_type structs (array n t) = is_good_type structs t && is_within_limits (shape structs (array n t))
  is_good_type structs (struct packed ts) = are_good_types structs ts && is_within_limits (shape structs (struct packed ts))
  is_good_type structs (named name) = list_any (λ s. bytes_eq s.0 name) structs && is_within_limits (shape structs (named name))

  -- the same of several types
  pub are_good_types : Structs → Trees → Bool
  are_good_types structs no_trees = true
  are_good_types structs (more_trees t ts) = is_good_type structs t && are_good_types structs ts

-- the fields of a struct are good types
abbrev pub is_good_body : Structs → TreeBody → Bool
is_good_body structs opaque_body = true
is_good_body structs (fields packed ts) = are_good_types structs ts

-- each struct is a good type, with good fields
abbrev pub are_good_structs : Structs → Bool
are_good_structs structs = list_all (λ s. is_good_body structs s.1 && is_good_type structs (named s.0)) structs

-- the types that an instruction writes elsewhere than before an operand
abbrev pub types_of_operation : Operation → List Tree
types_of_operation (Convert opcode flags value to) = to ∷ []
types_of_operation (Phi ty incoming) = ty ∷ []
types_of_operation (Load flags ty address alignment) = ty ∷ []
types_of_operation (Alloca ty count alignment) = ty ∷ []
types_of_operation (GetElementPtr flags source base indices) = source ∷ []
types_of_operation (Call signature value arguments) = signature.returns ∷ signature.parameters
types_of_operation _ = []

-- ---- constants

-- a constant and the type written for it; a callee is a ptr
abbrev pub known_in : Tree → Value → List Typed
known_in t (Local name) = []
known_in t (Known c) = (t, c) ∷ []

-- the constants among operands
abbrev pub known_of_operands : List Operand → List Typed
known_of_operands os = flat_map (λ o. known_in o.ty o.value) os

-- the constants of an operation; its callee is a ptr
abbrev pub known_of_operation : Operation → List Typed
known_of_operation o = known_of_operands (operands o) ++ option_map_or (known_in ptr) (callee o) []

-- the constants of a block
abbrev pub known_of_block : Block → List Typed
known_of_block block = flat_map (λ i. known_of_operation i.operation) block.instructions ++ known_of_operands (ending_operands block.ending)

-- the initialiser of a variable
abbrev pub known_of_variable : Variable → List Typed
known_of_variable v = map (λ c. (v.ty, c)) (option_to_list v.initialiser)

-- the constants that a module writes, with their types
abbrev pub module_constants : Module → List Typed
module_constants m = flat_map known_of_variable m.variables ++ flat_map (λ f. flat_map known_of_block (blocks f)) m.functions

-- a number is below 2^N, or 2^128 at a type that is no integer; `true` and `false` are numbers at i1
abbrev pub is_in_range : Tree → Constant → Bool
is_in_range (int width) (Integer n) = nat_lt n (2 ^ width)
is_in_range t (Integer n) = nat_lt n (2 ^ WIDEST)
is_in_range t (Truth truth) = not (is_integer_of 1 t)
is_in_range t (ByteString bytes) = are_bytes bytes
is_in_range t _ = true

-- the type that a constant writes elsewhere than before a constant
abbrev pub type_in_constant : Constant → List Tree
type_in_constant (ElementAddress flags source cs) = source ∷ []
type_in_constant (Cast opcode from value to) = to ∷ []
type_in_constant _ = []

-- a variable, alias or function has that name
abbrev pub has_entry : Module → Bytes → Bool
has_entry m name = list_any (bytes_eq name) (global_names m)

-- an address names an entry
abbrev pub names_an_entry : Module → Constant → Bool
names_an_entry m (Address name) = has_entry m name
names_an_entry m _ = true

-- of one constant, its parts apart
abbrev pub is_good_part : Module → Typed → Bool
is_good_part m (t, c) =
    is_good_type m.structs t
    && (list_all (is_good_type m.structs) (type_in_constant c) && (is_in_range t c && (is_constant_of_phrase c && names_an_entry m c)))

abbrev mutual
  -- how deep a constant nests: a list or an expression is one more than its deepest part
  pub depth : Constant → ℕ
  depth (Aggregate _ elements) = greatest_depth elements + 1
  depth (ElementAddress flags source cs) = greatest_depth cs + 1
  depth (Cast opcode from value to) = depth value + 1
  depth (Binary opcode flags a left b right) = max (depth left) (depth right) + 1
  depth _ = 0

  -- how deep the deepest of some constants nests
  pub greatest_depth : Constants → ℕ
  greatest_depth no_constants = 0
  greatest_depth (more_constants t c cs) = max (depth c) (greatest_depth cs)

-- a constant nests no deeper than types do, of good parts
abbrev pub is_good_constant : Module → Typed → Bool
is_good_constant m (t, c) = nat_le (depth c) NESTING_LIMIT && list_all (is_good_part m) (constants_in t c)

-- ---- variables, aliases and functions

-- a good type, and an alignment below 2^32
abbrev pub is_good_variable : Module → Variable → Bool
is_good_variable m v = is_good_type m.structs v.ty && is_small_alignment v.alignment

-- the types that an alias writes
abbrev pub types_of_alias : AliasType → List Tree
types_of_alias (PlainType ty) = ty ∷ []
types_of_alias (FunctionType signature) = signature.returns ∷ signature.parameters

-- what it is an alias of may be any entry; more is a matter of validity
abbrev pub is_good_alias : Module → Alias → Bool
is_good_alias m a = list_all (is_good_type m.structs) (types_of_alias a.ty) && has_entry m a.target

-- each operand has a good type
abbrev pub are_good_operands : Module → List Operand → Bool
are_good_operands m os = list_all (λ o. is_good_type m.structs o.ty) os

-- instructions are as their phrases, and all types are good
abbrev pub is_good_block : Module → Block → Bool
is_good_block m block =
    list_all
    (λ i. is_instruction_of_phrase i && (are_good_operands m (operands i.operation) && list_all (is_good_type m.structs) (types_of_operation i.operation)))
    block.instructions
    && are_good_operands m (ending_operands block.ending)

-- good types, names and blocks; a body has a block
abbrev pub is_good_function : Module → Function → Bool
is_good_function m f =
    is_good_type m.structs f.returns
    && (list_all (λ p. is_good_type m.structs p.ty) f.parameters
    && (option_map_or is_not_empty f.body true && (has_good_names f && list_all (is_good_block m) (blocks f))))

-- the text is bytes
abbrev pub is_good_text : Option Bytes → Bool
is_good_text text = option_map_or are_bytes text true

-- the count for aliases: with the declarations that may stand for them, no list gets too long
abbrev pub count_for_aliases : List Alias → List Variable → List Function → ℕ
count_for_aliases [] vs fs = 0
count_for_aliases (a ∷ as_) vs fs = length (a ∷ as_) + max (length vs) (length fs)

-- the count for the aliases of a module
abbrev pub alias_count : Module → ℕ
alias_count m = count_for_aliases m.aliases m.variables m.functions

-- no more than the limit of each
abbrev pub has_few_entries : Module → Bool
has_few_entries m =
    nat_le (length m.structs) COUNT_LIMIT
    && (nat_le (length m.variables) COUNT_LIMIT && (nat_le (length m.functions) COUNT_LIMIT && nat_le (alias_count m) COUNT_LIMIT))

-- the module is well formed
pub record IsWellFormed (m : Module) : Type 0 where
  pub texts : IsTrue (is_good_text m.source && (is_good_text m.layout && is_good_text m.triple))
  pub few : IsTrue (has_few_entries m)
  pub struct_names : IsTrue (are_good_names (struct_names m))
  pub global_names : IsTrue (are_good_names (global_names m))
  pub structs : IsTrue (are_good_structs m.structs)
  pub variables : IsTrue (list_all (is_good_variable m) m.variables)
  pub aliases : IsTrue (list_all (is_good_alias m) m.aliases)
  pub functions : IsTrue (list_all (is_good_function m) m.functions)
  pub constants : IsTrue (list_all (is_good_constant m) (module_constants m))
