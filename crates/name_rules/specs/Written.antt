-- For `resolve`: the types, constants and values that a text writes, as those of a module.
use Rattle.std.specs.Prelude.{ℕ, ◌-◌, ◌%◌, ◌^◌, ◌==◌, Bool, true, false, List, Option, option_map, if◌then◌else◌}
use Rattle.ir_tables.specs.declared.width.TheConstants.{WIDEST}
use Rattle.ir_terminals.specs.declared.values.Integer.{Integer}
use Rattle.ir_phrases.specs.declared.constants.constant.Simple.{Simple}
use Rattle.ir_phrases.specs.declared.constants.constant.Simple.TheVariants as simple
use Rattle.ir_phrases.specs.declared.constants.constant.Brackets as written_brackets
use Rattle.ir_phrases.specs.declared.constants.constant.Brackets.TheVariants as brackets
use Rattle.ir_phrases.specs.Constants.Tree.{TypeTree, IntegerType, PointerType, VoidType, ArrayType, StructType, NamedType, TypeTrees, no_types, more_types, ConstantTree, ConstantTrees, TypedValueTree, ValueTree, LocalValue, ConstantValue}
use Rattle.ir_phrases.specs.Constants.Tree as tree
use Rattle.ir_syntax.specs.Tree.{BodyTree, OpaqueBody, PlainBody, PackedBody}
use Rattle.type_table.specs.Tree.{Tree, int, ptr, void, array, struct, named, Trees, no_trees, more_trees, TreeBody, opaque_body, fields}
use Rattle.module_arena.specs.Module.{Constant, Constants, Value, Operand}
use Rattle.module_arena.specs.Module as m
use Rattle.name_rules.specs.Locals.{local_in}

-- what an integer that is not negative stands for; -0 is 0
abbrev pub natural : Integer → ℕ
natural written = if written.negative then 0 else written.magnitude

abbrev mutual
  -- the type that is meant
  pub type_in : TypeTree → Tree
  type_in (IntegerType place width) = int width
  type_in (PointerType place) = ptr
  type_in (VoidType place) = void
  type_in (ArrayType place count element) = array (natural count) (type_in element)
  type_in (StructType place packed parts) = struct packed (types_in parts)
  type_in (NamedType name) = named name.name

  -- types, in order
  pub types_in : TypeTrees → Trees
  types_in no_types = no_trees
  types_in (more_types t ts) = more_trees (type_in t) (types_in ts)

-- the fields of a struct
abbrev pub fields_in : List TypeTree → Trees
fields_in parts = types_in (tree.types parts)

-- what a struct's name stands for
abbrev pub body_in : BodyTree → TreeBody
body_in OpaqueBody = opaque_body
body_in (PlainBody parts) = fields false (fields_in parts)
body_in (PackedBody parts) = fields true (fields_in parts)

-- the bits of an integer at this type; at a type that is none it has 128
abbrev pub bits_at : Tree → ℕ
bits_at (int width) = width
bits_at _ = WIDEST

-- an integer modulo 2^bits
abbrev pub modulo : ℕ → Integer → ℕ
modulo bits written =
    if written.negative then (2 ^ bits - written.magnitude % 2 ^ bits) % 2 ^ bits
    else written.magnitude % 2 ^ bits

-- `true` or `false` at a type: 1 or 0 at i1
abbrev pub truth_at : Tree → Bool → Constant
truth_at (int width) truth = if width == 1 then m.Integer (if truth then 1 else 0) else m.Truth truth
truth_at _ truth = m.Truth truth

-- a word that is a constant
abbrev pub simple_at : Tree → Simple → Constant
simple_at t simple.True = truth_at t true
simple_at t simple.False = truth_at t false
simple_at t simple.Null = m.Null
simple_at t simple.Undef = m.Undef
simple_at t simple.Poison = m.Poison
simple_at t simple.ZeroInitializer = m.ZeroInitializer

-- the brackets round a list
abbrev pub brackets_in : written_brackets.Brackets → m.Brackets
brackets_in brackets.Square = m.Square
brackets_in brackets.Braces = m.Braces
brackets_in brackets.Packed = m.Packed

abbrev mutual
  -- the constant, where it stands at that type
  pub constant_in : Tree → ConstantTree → Constant
  constant_in t (tree.IntegerConstant written) = m.Integer (modulo (bits_at t) written)
  constant_in t (tree.SimpleConstant word place) = simple_at t word
  constant_in t (tree.AddressConstant name) = m.Address name.name
  constant_in t (tree.BytesConstant text) = m.ByteString text.text
  constant_in t (tree.ListConstant place round elements) = m.Aggregate (brackets_in round) (constants_in elements)
  constant_in t (tree.ElementAddress place flags source operands) = m.ElementAddress flags (type_in source) (constants_in operands)
  constant_in t (tree.Conversion place opcode from value to) = m.Cast opcode (type_in from) (constant_in (type_in from) value) (type_in to)
  constant_in t (tree.Arithmetic place opcode flags left_type left right_type right) =
      m.Binary opcode flags (type_in left_type) (constant_in (type_in left_type) left) (type_in right_type) (constant_in (type_in right_type) right)

  -- constants, each at the type that is written before it
  pub constants_in : ConstantTrees → Constants
  constants_in tree.no_constants = m.no_constants
  constants_in (tree.more_constants ty c cs) = m.more_constants (type_in ty) (constant_in (type_in ty) c) (constants_in cs)

-- a value that stands at that type
abbrev pub value_in : Tree → ValueTree → Value
value_in t (LocalValue name) = m.Local (local_in name)
value_in t (ConstantValue constant) = m.Known (constant_in t constant)

-- a type, and a value that stands at it
abbrev pub operand_in : TypedValueTree → Operand
operand_in written = record { ty = type_in written.0; value = value_in (type_in written.0) written.1 }

-- an alignment, where one is written
abbrev pub alignment_in : Option Integer → Option ℕ
alignment_in written = option_map natural written
