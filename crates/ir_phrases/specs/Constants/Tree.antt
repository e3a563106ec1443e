-- For `type_of`, `constant_of`, `value_of` and the calls beside them: types, constants and values as plain trees.
use Rattle.std.specs.Prelude.{ℕ, Bool, List, [], ◌∷◌}
use Rattle.ir_base.specs.declared.place.Place.{Place}
use Rattle.ir_tables.specs.declared.opcode.Opcode.{Opcode}
use Rattle.ir_terminals.specs.declared.values.Integer.{Integer}
use Rattle.ir_terminals.specs.declared.values.PlacedName.{PlacedName}
use Rattle.ir_terminals.specs.declared.values.PlacedText.{PlacedText}
use Rattle.ir_terminals.specs.declared.values.Local.{Local}
use Rattle.ir_phrases.specs.declared.constants.constant.Simple.{Simple}
use Rattle.ir_phrases.specs.declared.constants.constant.Brackets.{Brackets}

-- a type, with the place of its first token
mutual
  -- a type by itself
  pub data TypeTree : Type 0 where
    -- `iN`
    IntegerType : (place : Place) → (width : ℕ) → TypeTree
    -- `ptr`
    PointerType : (place : Place) → TypeTree
    -- `void`
    VoidType : (place : Place) → TypeTree
    -- `[count x element]`
    ArrayType : (place : Place) → (count : Integer) → (element : TypeTree) → TypeTree
    -- `{ .. }`, or `<{ .. }>` where it is packed
    StructType : (place : Place) → (packed : Bool) → (fields : TypeTrees) → TypeTree
    -- `%name`, a struct
    NamedType : (name : PlacedName) → TypeTree

  -- types, one after another
  pub data TypeTrees : Type 0 where
    no_types : TypeTrees
    more_types : TypeTree → TypeTrees → TypeTrees

-- a list of types as one tree
abbrev pub types : List TypeTree → TypeTrees
types [] = no_types
types (t ∷ ts) = more_types t (types ts)

-- a constant, with the place of its first token; flags are the sum of their codes
mutual
  -- a constant by itself
  pub data ConstantTree : Type 0 where
    -- a number, with its sign
    IntegerConstant : (number : Integer) → ConstantTree
    -- a word that is a constant, as `null` is
    SimpleConstant : (simple : Simple) → (place : Place) → ConstantTree
    -- `@name`
    AddressConstant : (global : PlacedName) → ConstantTree
    -- `c".."`
    BytesConstant : (bytes : PlacedText) → ConstantTree
    -- an array or a struct, element by element
    ListConstant : (place : Place) → (brackets : Brackets) → (elements : ConstantTrees) → ConstantTree
    -- `getelementptr` of constants
    ElementAddress : (place : Place) → (flags : ℕ) → (source : TypeTree) → (operands : ConstantTrees) → ConstantTree
    -- a cast of a constant
    Conversion : (place : Place) → (opcode : Opcode) → (from : TypeTree) → (value : ConstantTree) → (to : TypeTree) → ConstantTree
    -- `add`, `sub` or `xor` of constants
    Arithmetic : (place : Place) → (opcode : Opcode) → (flags : ℕ) → (left_type : TypeTree) → (left : ConstantTree) → (right_type : TypeTree) → (right : ConstantTree) → ConstantTree

  -- constants, each with its type
  pub data ConstantTrees : Type 0 where
    no_constants : ConstantTrees
    more_constants : TypeTree → ConstantTree → ConstantTrees → ConstantTrees

-- a constant and its type
abbrev pub TypedConstantTree : Type 0
TypedConstantTree = TypeTree × ConstantTree

-- a list of constants with their types as one tree
abbrev pub constants : List TypedConstantTree → ConstantTrees
constants [] = no_constants
constants (c ∷ cs) = more_constants c.0 c.1 (constants cs)

-- what an instruction works on
pub data ValueTree : Type 0 where
  -- `%name`, what a parameter or an instruction gives
  LocalValue : (name : Local) → ValueTree
  -- a constant
  ConstantValue : (constant : ConstantTree) → ValueTree

-- a value and its type
abbrev pub TypedValueTree : Type 0
TypedValueTree = TypeTree × ValueTree
