-- For `type_of`, `constant_of`, `value_of` and the calls beside them: the plain tree of a type, a constant or a value as it
-- lies in memory.
use Rattle.ir_terminals.specs.declared.values.Integer.{Integer}
use Rattle.ir_phrases.specs.declared.constants.ty.Type as the_type
use Rattle.ir_phrases.specs.declared.constants.ty.Type.TheOpen as open_type
use Rattle.ir_phrases.specs.declared.constants.ty.Type.TheFolds.{fold-Type}
use Rattle.ir_phrases.specs.declared.constants.constant.Constant as the_constant
use Rattle.ir_phrases.specs.declared.constants.constant.Constant.TheOpen as open_constant
use Rattle.ir_phrases.specs.declared.constants.constant.Constant.TheFolds.{fold-Constant}
use Rattle.ir_phrases.specs.declared.constants.constant.TypedConstant.{TypedConstant}
use Rattle.ir_phrases.specs.declared.constants.value.WrittenValue.{WrittenValue}
use Rattle.ir_phrases.specs.declared.constants.value.WrittenValue.TheVariants as value
use Rattle.ir_phrases.specs.declared.constants.value.TypedValue.{TypedValue}
use Rattle.ir_phrases.specs.Constants.Tree.{TypeTree, IntegerType, PointerType, VoidType, ArrayType, StructType, NamedType, types, ConstantTree, IntegerConstant, SimpleConstant, AddressConstant, BytesConstant, ListConstant, ElementAddress, Conversion, Arithmetic, TypedConstantTree, constants, ValueTree, LocalValue, ConstantValue, TypedValueTree}

-- an array's count and the type of its elements
abbrev pub ArrayParts : Type 0
ArrayParts = Integer × TypeTree

-- a type, where those in it are trees already
abbrev pub type_step : open_type.Type-F TypeTree ArrayParts → TypeTree
type_step (open_type.Integer place width) = IntegerType place width
type_step (open_type.Ptr place) = PointerType place
type_step (open_type.Void place) = VoidType place
type_step (open_type.Array place array) = ArrayType place array.value.0 array.value.1
type_step (open_type.Struct place packed fields) = StructType place packed (types fields.value.items)
type_step (open_type.Named name) = NamedType name

-- the parts of an array type, where its element is a tree already
abbrev pub array_step : open_type.ArrayType-F TypeTree ArrayParts → ArrayParts
array_step array = (array.count, array.element)

-- a type as a tree
abbrev pub type_view : the_type.Type → TypeTree
type_view = fold-Type TypeTree ArrayParts type_step array_step

-- a constant, where those in it are trees already
abbrev pub constant_step : open_constant.Constant-F ConstantTree TypedConstantTree → ConstantTree
constant_step (open_constant.Integer negative place magnitude) = IntegerConstant (record { negative = negative; magnitude = magnitude; place = place })
constant_step (open_constant.Simple simple place) = SimpleConstant simple place
constant_step (open_constant.Global name) = AddressConstant name
constant_step (open_constant.Bytes text) = BytesConstant text
constant_step (open_constant.List place brackets elements) = ListConstant place brackets (constants elements.value.items)
constant_step (open_constant.GetElementPtr place flags source operands) = ElementAddress place flags (type_view source.value) (constants operands.value.items)
constant_step (open_constant.Cast place opcode operand to) = Conversion place opcode operand.value.0 operand.value.1 (type_view to.value)
constant_step (open_constant.Binary place opcode flags left right) = Arithmetic place opcode flags left.value.0 left.value.1 right.value.0 right.value.1

-- a constant with its type, where the constant is a tree already
abbrev pub typed_step : open_constant.TypedConstant-F ConstantTree TypedConstantTree → TypedConstantTree
typed_step typed = (type_view typed.ty, typed.value)

-- a constant as a tree
abbrev pub constant_view : the_constant.Constant → ConstantTree
constant_view = fold-Constant ConstantTree TypedConstantTree constant_step typed_step

-- a constant with its type as a tree
abbrev pub typed_constant_view : TypedConstant → TypedConstantTree
typed_constant_view typed = (type_view typed.ty, constant_view typed.value)

-- a value as a tree
abbrev pub value_view : WrittenValue → ValueTree
value_view (value.Local local) = LocalValue local
value_view (value.Constant constant) = ConstantValue (constant_view constant)

-- a value with its type as a tree
abbrev pub typed_value_view : TypedValue → TypedValueTree
typed_value_view typed = (type_view typed.ty, value_view typed.value)
