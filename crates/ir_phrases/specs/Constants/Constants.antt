-- For `constant_of` and `typed_constant_of`: the rows of constants.
use Rattle.std.specs.Prelude.{ℕ, zero, suc, false, List, [], ◌∷◌, ◌++◌, Option, Some, None}
use Rattle.ir_terminals.specs.PhraseRows.Row.{Row, PhraseShape, fail, chain, mapped, joined_values, keep_second, keep_first, pair, alt, many, separated, labelled}
use Rattle.ir_lexer.specs.Ahead.{Located}
use Rattle.ir_base.specs.declared.place.Place.{Place}
use Rattle.ir_tables.specs.declared.opcode.Opcode.{Opcode}
use Rattle.ir_tables.specs.declared.opcode.Opcode.TheVariants as op
use Rattle.ir_terminals.specs.declared.terminal.Terminal.{Terminal}
use Rattle.ir_terminals.specs.declared.terminal.Terminal.TheVariants as terminal
use Rattle.ir_terminals.specs.declared.limits.Limits.{Limits}
use Rattle.ir_terminals.specs.Role.{class}
use Rattle.ir_terminals.specs.Terminal.{code, flag_class}
use Rattle.ir_terminals.specs.Tokens.{word, integer_row, global_name_row, byte_string_row}
use Rattle.ir_terminals.specs.Values.{opcode_in}
use Rattle.ir_phrases.specs.Constants.Placed.{token_with_place}
use Rattle.ir_phrases.specs.declared.constants.constant.Simple.{Simple}
use Rattle.ir_phrases.specs.declared.constants.constant.Simple.TheVariants as simple
use Rattle.ir_phrases.specs.declared.constants.constant.Brackets.TheVariants as brackets
use Rattle.ir_phrases.specs.Constants.Flags.{flags_row}
use Rattle.ir_phrases.specs.Constants.Types.{nest_shape, type_shape, list_shape, type_row}
use Rattle.ir_phrases.specs.Constants.Tree.{ConstantTree, IntegerConstant, SimpleConstant, AddressConstant, BytesConstant, ListConstant, ElementAddress, Conversion, Arithmetic, TypedConstantTree, constants}

-- the words that are constants
abbrev pub simple_classes : List ℕ
simple_classes =
    code terminal.True ∷
    code terminal.False ∷
    code terminal.Null ∷
    code terminal.Undef ∷
    code terminal.Poison ∷
    code terminal.ZeroInitializer ∷
    []

-- the opcodes of constant expressions
abbrev pub expression_classes : List ℕ
expression_classes =
    code (terminal.Opcode op.GetElementPtr) ∷
    code (terminal.Opcode op.PtrToInt) ∷
    code (terminal.Opcode op.IntToPtr) ∷
    code (terminal.Opcode op.Trunc) ∷
    code (terminal.Opcode op.Add) ∷
    code (terminal.Opcode op.Sub) ∷
    code (terminal.Opcode op.Xor) ∷
    []

-- [ { <, and those opcodes
abbrev pub holder_shape : PhraseShape
holder_shape = record { first = nest_shape.first ++ expression_classes; more = []; empty = false }

-- how constants begin
abbrev pub constant_shape : PhraseShape
constant_shape = record {
  first = code terminal.Integer ∷ code terminal.GlobalName ∷ code terminal.ByteString ∷ simple_classes ++ holder_shape.first;
  more = [];
  empty = false;
}

-- the constant that is one word
abbrev pub simple_word : Terminal → Option Simple
simple_word terminal.True = Some simple.True
simple_word terminal.False = Some simple.False
simple_word terminal.Null = Some simple.Null
simple_word terminal.Undef = Some simple.Undef
simple_word terminal.Poison = Some simple.Poison
simple_word terminal.ZeroInitializer = Some simple.ZeroInitializer
simple_word _ = None

-- true, false, null, undef, poison, zeroinitializer
abbrev pub simple_row : Row Located ConstantTree
simple_row = mapped (λ v. SimpleConstant v.0 v.1) (token_with_place simple_classes simple_word)

-- INT
abbrev pub integer_constant_row : Row Located ConstantTree
integer_constant_row = mapped IntegerConstant integer_row

-- GLOBAL
abbrev pub address_row : Row Located ConstantTree
address_row = mapped AddressConstant global_name_row

-- a byte string
abbrev pub bytes_row : Row Located ConstantTree
bytes_row = mapped BytesConstant byte_string_row

-- TYPE CONST
unfoldable pub typed_core : Limits → Row Located ConstantTree → Row Located TypedConstantTree
typed_core limits c = pair (type_row limits) c

-- TYPE CONST, the constants read by the row that is given
abbrev pub typed_over : Limits → Row Located ConstantTree → Row Located TypedConstantTree
typed_over limits c = labelled type_shape (typed_core limits c)

-- (TYPE CONST),*
unfoldable pub elements_core : Row Located TypedConstantTree → Row Located (List TypedConstantTree)
elements_core typed = separated class (word terminal.Comma) typed

-- TYPE CONST,*
abbrev pub elements_row : Row Located TypedConstantTree → Row Located (List TypedConstantTree)
elements_row typed = labelled list_shape (elements_core typed)

-- [ (TYPE CONST),* ]
abbrev pub array_constant_row : Row Located TypedConstantTree → Row Located ConstantTree
array_constant_row typed =
    mapped
    (λ v. ListConstant v.0 brackets.Square (constants v.1))
    (pair (word terminal.OpenBracket) (keep_first (elements_row typed) (word terminal.CloseBracket)))

-- { (TYPE CONST),* }
abbrev pub struct_constant_row : Row Located TypedConstantTree → Row Located ConstantTree
struct_constant_row typed =
    mapped
    (λ v. ListConstant v.0 brackets.Braces (constants v.1))
    (pair (word terminal.OpenBrace) (keep_first (elements_row typed) (word terminal.CloseBrace)))

-- <{ (TYPE CONST),* }>
abbrev pub packed_constant_row : Row Located TypedConstantTree → Row Located ConstantTree
packed_constant_row typed =
    mapped (λ v. ListConstant v.0 brackets.Packed (constants v.1))
    (pair (word terminal.Less)
    (keep_second (word terminal.OpenBrace)
    (keep_first (elements_row typed) (keep_second (word terminal.CloseBrace) (word terminal.Greater)))))

-- TYPE CONST (, TYPE CONST)*
unfoldable pub operands_core : Row Located TypedConstantTree → Row Located (List TypedConstantTree)
operands_core typed = joined_values (λ c cs. c ∷ cs) typed (many class (keep_second (word terminal.Comma) typed))

-- how the operands of an expression begin and go on
abbrev pub operands_shape : PhraseShape
operands_shape = record { first = type_shape.first; more = code terminal.Comma ∷ []; empty = false }

-- TYPE CONST (, TYPE CONST)*
abbrev pub operands_row : Row Located TypedConstantTree → Row Located (List TypedConstantTree)
operands_row typed = labelled operands_shape (operands_core typed)

-- FLAG* ( TYPE , TYPE CONST (, TYPE CONST)* ), behind `getelementptr`
abbrev pub element_address_row : Limits → Row Located TypedConstantTree → Place → Row Located ConstantTree
element_address_row limits typed place =
    mapped (λ (flags, (source, operands)). ElementAddress place flags source (constants operands))
    (pair (flags_row op.GetElementPtr)
    (keep_second (word terminal.OpenParenthesis)
    (pair (keep_first (type_row limits) (word terminal.Comma)) (keep_first (operands_row typed) (word terminal.CloseParenthesis)))))

-- ( TYPE CONST to TYPE ), behind `ptrtoint`, `inttoptr` or `trunc`
abbrev pub conversion_row : Limits → Row Located TypedConstantTree → Place → Opcode → Row Located ConstantTree
conversion_row limits typed place opcode =
    mapped (λ ((from, value), to). Conversion place opcode from value to)
    (keep_second (word terminal.OpenParenthesis) (pair (keep_first typed (word terminal.To)) (keep_first (type_row limits) (word terminal.CloseParenthesis))))

-- FLAG* ( TYPE CONST , TYPE CONST ), behind `add`, `sub` or `xor`, the last of which has no flags
abbrev pub arithmetic_row : Row Located TypedConstantTree → Place → Opcode → Row Located ConstantTree
arithmetic_row typed place opcode =
    mapped (λ (flags, ((left_type, left), (right_type, right))). Arithmetic place opcode flags left_type left right_type right)
    (pair (flags_row opcode)
    (keep_second (word terminal.OpenParenthesis)
    (pair (keep_first typed (word terminal.Comma)) (keep_first typed (word terminal.CloseParenthesis)))))

-- how an expression goes on behind its opcode
abbrev pub expression_shape : PhraseShape
expression_shape = record { first = flag_class ∷ code terminal.OpenParenthesis ∷ []; more = []; empty = false }

-- what stands behind the opcode of an expression, by the opcode
abbrev pub expression_by : Limits → Row Located TypedConstantTree → Place → Opcode → Row Located ConstantTree
expression_by limits typed place op.GetElementPtr = element_address_row limits typed place
expression_by limits typed place op.PtrToInt = conversion_row limits typed place op.PtrToInt
expression_by limits typed place op.IntToPtr = conversion_row limits typed place op.IntToPtr
expression_by limits typed place op.Trunc = conversion_row limits typed place op.Trunc
expression_by limits typed place op.Add = arithmetic_row typed place op.Add
expression_by limits typed place op.Sub = arithmetic_row typed place op.Sub
expression_by limits typed place op.Xor = arithmetic_row typed place op.Xor
expression_by limits typed place _ = fail expression_shape

-- what follows the opcode of a constant expression
unfoldable pub expression_core : Limits → Row Located TypedConstantTree → Opcode × Place → Row Located ConstantTree
expression_core limits typed v = expression_by limits typed v.1 v.0

-- what stands behind the opcode of an expression
abbrev pub expression_body : Limits → Row Located TypedConstantTree → Opcode × Place → Row Located ConstantTree
expression_body limits typed v = labelled expression_shape (expression_core limits typed v)

-- a constant expression
abbrev pub expression_row : Limits → Row Located TypedConstantTree → Row Located ConstantTree
expression_row limits typed = chain (token_with_place expression_classes opcode_in) expression_shape (expression_body limits typed)

-- a constant that holds constants, which are these
abbrev pub holder_step : Limits → Row Located TypedConstantTree → Row Located ConstantTree
holder_step limits typed =
    alt class (array_constant_row typed)
    (alt class (struct_constant_row typed) (alt class (packed_constant_row typed) (expression_row limits typed)))

-- any constant, where those that hold constants are these
unfoldable pub constant_core : Row Located ConstantTree → Row Located ConstantTree
constant_core holder = alt class integer_constant_row (alt class address_row (alt class bytes_row (alt class simple_row holder)))

-- a constant, those that hold others read by the row that is given
abbrev pub constant_over : Row Located ConstantTree → Row Located ConstantTree
constant_over holder = labelled constant_shape (constant_core holder)

-- a constant that holds constants, nested no more than so deep
unfoldable pub holder_core : Limits → ℕ → Row Located ConstantTree
holder_core limits zero = fail holder_shape
holder_core limits (suc n) = holder_step limits (typed_over limits (constant_over (labelled holder_shape (holder_core limits n))))

-- a constant that holds others, in so many nests at most
abbrev pub holder_row : Limits → ℕ → Row Located ConstantTree
holder_row limits depth = labelled holder_shape (holder_core limits depth)

-- CONST, nested no more than so deep
abbrev pub constant_at : Limits → ℕ → Row Located ConstantTree
constant_at limits depth = constant_over (holder_row limits depth)

-- TYPE CONST, the constant nested no more than so deep
abbrev pub typed_at : Limits → ℕ → Row Located TypedConstantTree
typed_at limits depth = typed_over limits (constant_at limits depth)

-- CONST
abbrev pub constant_row : Limits → Row Located ConstantTree
constant_row limits = constant_at limits limits.nesting

-- TYPE CONST
abbrev pub typed_constant_row : Limits → Row Located TypedConstantTree
typed_constant_row limits = typed_at limits limits.nesting
