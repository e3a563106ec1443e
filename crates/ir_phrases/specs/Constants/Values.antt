-- For `value_of` and `typed_value_of`: the rows of values.
use Rattle.std.specs.Prelude.{false, [], ◌∷◌}
use Rattle.ir_terminals.specs.PhraseRows.Row.{Row, PhraseShape, mapped, pair, alt, labelled}
use Rattle.ir_lexer.specs.Ahead.{Located}
use Rattle.ir_terminals.specs.declared.limits.Limits.{Limits}
use Rattle.ir_terminals.specs.Role.{class}
use Rattle.ir_terminals.specs.Terminal.{code}
use Rattle.ir_terminals.specs.declared.terminal.Terminal.TheVariants as terminal
use Rattle.ir_terminals.specs.Tokens.{local_row}
use Rattle.ir_phrases.specs.Constants.Types.{type_shape, type_row}
use Rattle.ir_phrases.specs.Constants.Constants.{constant_shape, constant_row}
use Rattle.ir_phrases.specs.Constants.Tree.{ValueTree, LocalValue, ConstantValue, TypedValueTree}

-- how values begin
abbrev pub value_shape : PhraseShape
value_shape = record { first = code terminal.Local ∷ constant_shape.first; more = []; empty = false }

-- a LOCAL or a CONST
unfoldable pub value_core : Limits → Row Located ValueTree
value_core limits = alt class (mapped LocalValue local_row) (mapped ConstantValue (constant_row limits))

-- LOCAL or CONST
abbrev pub value_row : Limits → Row Located ValueTree
value_row limits = labelled value_shape (value_core limits)

-- TYPE VALUE
unfoldable pub typed_value_core : Limits → Row Located TypedValueTree
typed_value_core limits = pair (type_row limits) (value_row limits)

-- TYPE VALUE
abbrev pub typed_value_row : Limits → Row Located TypedValueTree
typed_value_row limits = labelled type_shape (typed_value_core limits)
