-- For `type_of`, `value_type_of` and `fields_of`: the rows of types.
use Rattle.std.specs.Prelude.{ℕ, zero, suc, true, false, List, [], ◌∷◌}
use Rattle.ir_terminals.specs.PhraseRows.Row.{Row, PhraseShape, fail, mapped, keep_second, keep_first, pair, alt, separated, labelled}
use Rattle.ir_lexer.specs.Ahead.{Located}
use Rattle.ir_terminals.specs.declared.terminal.Terminal.TheVariants as terminal
use Rattle.ir_terminals.specs.declared.limits.Limits.{Limits}
use Rattle.ir_terminals.specs.Role.{class}
use Rattle.ir_terminals.specs.Terminal.{code, integer_type_class}
use Rattle.ir_terminals.specs.Tokens.{word, integer_row, named_local_row}
use Rattle.ir_terminals.specs.Values.{width_of_type}
use Rattle.ir_phrases.specs.Constants.Placed.{token_with_place}
use Rattle.ir_phrases.specs.Constants.Tree.{TypeTree, IntegerType, PointerType, VoidType, ArrayType, StructType, NamedType, types}

-- [ { <
abbrev pub nest_shape : PhraseShape
nest_shape = record { first = code terminal.OpenBracket ∷ code terminal.OpenBrace ∷ code terminal.Less ∷ []; more = []; empty = false }

-- iN, ptr, a struct's name, and those
abbrev pub value_type_shape : PhraseShape
value_type_shape = record { first = integer_type_class ∷ code terminal.Ptr ∷ code terminal.Local ∷ nest_shape.first; more = []; empty = false }

-- and `void`
abbrev pub type_shape : PhraseShape
type_shape = record { first = code terminal.Void ∷ value_type_shape.first; more = []; empty = false }

-- iN
abbrev pub int_row : Row Located TypeTree
int_row = mapped (λ v. IntegerType v.1 v.0) (token_with_place (integer_type_class ∷ []) width_of_type)

-- ptr
abbrev pub ptr_row : Row Located TypeTree
ptr_row = mapped PointerType (word terminal.Ptr)

-- void
abbrev pub void_row : Row Located TypeTree
void_row = mapped VoidType (word terminal.Void)

-- %name
abbrev pub named_row : Limits → Row Located TypeTree
named_row limits = mapped NamedType (named_local_row limits)

-- [ INT x TYPE ]
abbrev pub array_row : Row Located TypeTree → Row Located TypeTree
array_row t =
    mapped (λ (place, (count, element)). ArrayType place count element)
    (pair (word terminal.OpenBracket) (pair integer_row (keep_second (word terminal.X) (keep_first t (word terminal.CloseBracket)))))

-- a list with commas, of what begins as types do
abbrev pub list_shape : PhraseShape
list_shape = record { first = type_shape.first; more = code terminal.Comma ∷ type_shape.first; empty = true }

-- TYPE,*
unfoldable pub types_core : Row Located TypeTree → Row Located (List TypeTree)
types_core t = separated class (word terminal.Comma) t

-- TYPE,*
abbrev pub types_row : Row Located TypeTree → Row Located (List TypeTree)
types_row t = labelled list_shape (types_core t)

-- { TYPE,* }
abbrev pub struct_row : Row Located TypeTree → Row Located TypeTree
struct_row t = mapped (λ v. StructType v.0 false (types v.1)) (pair (word terminal.OpenBrace) (keep_first (types_row t) (word terminal.CloseBrace)))

-- <{ TYPE,* }>
abbrev pub packed_row : Row Located TypeTree → Row Located TypeTree
packed_row t =
    mapped (λ v. StructType v.0 true (types v.1))
    (pair (word terminal.Less)
    (keep_second (word terminal.OpenBrace)
    (keep_first (types_row t) (keep_second (word terminal.CloseBrace) (word terminal.Greater)))))

-- a type that holds types, which are these
abbrev pub nest_step : Row Located TypeTree → Row Located TypeTree
nest_step t = alt class (array_row t) (alt class (struct_row t) (packed_row t))

-- any type but `void`, where those that hold types are these
unfoldable pub value_type_core : Limits → Row Located TypeTree → Row Located TypeTree
value_type_core limits nest = alt class int_row (alt class ptr_row (alt class (named_row limits) nest))

-- a type but `void`, those that hold others read by the row that is given
abbrev pub value_type_over : Limits → Row Located TypeTree → Row Located TypeTree
value_type_over limits nest = labelled value_type_shape (value_type_core limits nest)

-- any type, where those that hold types are these
unfoldable pub type_core : Limits → Row Located TypeTree → Row Located TypeTree
type_core limits nest = alt class void_row (value_type_over limits nest)

-- a type, those that hold others read by the row that is given
abbrev pub type_over : Limits → Row Located TypeTree → Row Located TypeTree
type_over limits nest = labelled type_shape (type_core limits nest)

-- a type that holds types, nested no more than so deep
unfoldable pub nest_core : Limits → ℕ → Row Located TypeTree
nest_core limits zero = fail nest_shape
nest_core limits (suc n) = nest_step (type_over limits (labelled nest_shape (nest_core limits n)))

-- a type that holds others, in so many nests at most
abbrev pub nest_row : Limits → ℕ → Row Located TypeTree
nest_row limits depth = labelled nest_shape (nest_core limits depth)

-- TYPE, nested no more than so deep
abbrev pub type_at : Limits → ℕ → Row Located TypeTree
type_at limits depth = type_over limits (nest_row limits depth)

-- TYPE
abbrev pub type_row : Limits → Row Located TypeTree
type_row limits = type_at limits limits.nesting

-- TYPE but `void`
abbrev pub value_type_row : Limits → Row Located TypeTree
value_type_row limits = value_type_over limits (nest_row limits limits.nesting)

-- TYPE,* in the braces of a struct that is nested no more than so deep itself
unfoldable pub fields_core : Limits → ℕ → Row Located (List TypeTree)
fields_core limits zero = fail list_shape
fields_core limits (suc n) = types_row (type_at limits n)

-- TYPE,* in the outermost braces
abbrev pub fields_row : Limits → Row Located (List TypeTree)
fields_row limits = labelled list_shape (fields_core limits limits.nesting)
