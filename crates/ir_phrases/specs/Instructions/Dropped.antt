-- For `attachments`, `parameter_attributes`, `function_attributes` and `convention`: what is read and dropped:
-- metadata, attributes and calling conventions.
use Rattle.std.specs.Prelude.{ℕ, true, false, List, [], ◌∷◌, ◌++◌}
use Rattle.ir_terminals.specs.PhraseRows.Row.{Row, PhraseShape, one, mapped, keep_second, alt, optional, loop, labelled}
use Rattle.ir_lexer.specs.Ahead.{Located}
use Rattle.ir_terminals.specs.declared.terminal.Terminal.TheVariants as terminal
use Rattle.ir_terminals.specs.Role.{class}
use Rattle.ir_terminals.specs.Terminal.{code}
use Rattle.ir_terminals.specs.Values.{place_of_token}
use Rattle.ir_terminals.specs.Tokens.{word}
use Rattle.ir_terminals.specs.Brackets.{matched_row}

-- the phrase, without its value
abbrev pub dropped : {A : Type 0} → Row Located A → Row Located (Unit {0})
dropped p = mapped (λ a. tt) p

-- MNAME MNUMBER, or MNAME ! { .. }
abbrev pub attachment_row : Row Located (Unit {0})
attachment_row =
    keep_second (word terminal.MetaName)
    (alt class
    (dropped (word terminal.MetaNumber))
    (keep_second (word terminal.MetaMark) (matched_row terminal.OpenBrace)))

-- a comma and what follows it
abbrev pub comma_shape : PhraseShape
comma_shape = record { first = code terminal.Comma ∷ []; more = []; empty = false }

-- any number of those
abbrev pub commas_shape : PhraseShape
commas_shape = record { first = comma_shape.first; more = comma_shape.first; empty = true }

-- (, MD)*, by its parts
unfoldable pub attachments_core : Row Located (Unit {0})
attachments_core = loop class comma_shape (λ u. keep_second (word terminal.Comma) attachment_row) tt

-- (, MD)*
abbrev pub attachments_row : Row Located (Unit {0})
attachments_row = labelled commas_shape attachments_core

-- a word that is dropped at a parameter
abbrev pub parameter_word_row : Row Located (Unit {0})
parameter_word_row = dropped (one class (code terminal.ParameterDropped ∷ code terminal.AttributeDropped ∷ []) place_of_token)

-- align INT, or align ( INT )
abbrev pub parameter_alignment_row : Row Located (Unit {0})
parameter_alignment_row =
    keep_second (word terminal.Align)
    (alt class
    (dropped (word terminal.Integer))
    (keep_second (word terminal.OpenParenthesis) (keep_second (word terminal.Integer) (dropped (word terminal.CloseParenthesis)))))

-- a word and what is in its brackets
abbrev pub parameter_list_row : Row Located (Unit {0})
parameter_list_row = keep_second (word terminal.ParameterDroppedList) (matched_row terminal.OpenParenthesis)

-- how the attribute of a parameter begins
abbrev pub parameter_attribute_shape : PhraseShape
parameter_attribute_shape = record {
  first = code terminal.ParameterDropped ∷ code terminal.AttributeDropped ∷ code terminal.Align ∷ code terminal.ParameterDroppedList ∷ [];
  more = [];
  empty = false;
}

-- PDROP
abbrev pub parameter_attribute_row : Row Located (Unit {0})
parameter_attribute_row = alt class parameter_word_row (alt class parameter_alignment_row parameter_list_row)

-- PDROP*, by its parts
unfoldable pub parameter_attributes_core : Row Located (Unit {0})
parameter_attributes_core = loop class parameter_attribute_shape (λ u. parameter_attribute_row) tt

-- how the attributes of a parameter begin and go on
abbrev pub parameter_attributes_shape : PhraseShape
parameter_attributes_shape = record { first = parameter_attribute_shape.first; more = parameter_attribute_shape.first; empty = true }

-- PDROP*
abbrev pub parameter_attributes_row : Row Located (Unit {0})
parameter_attributes_row = labelled parameter_attributes_shape parameter_attributes_core

-- the words and the group that are dropped behind a function
abbrev pub function_word_classes : List ℕ
function_word_classes = code terminal.UnnamedAddress ∷ code terminal.Group ∷ code terminal.FunctionDropped ∷ code terminal.AttributeDropped ∷ []

-- one of these
abbrev pub function_word_row : Row Located (Unit {0})
function_word_row = dropped (one class function_word_classes place_of_token)

-- STRING (= STRING)?
abbrev pub function_string_row : Row Located (Unit {0})
function_string_row = keep_second (word terminal.Quoted) (dropped (optional class (keep_second (word terminal.Equals) (word terminal.Quoted))))

-- align INT
abbrev pub function_alignment_row : Row Located (Unit {0})
function_alignment_row = keep_second (word terminal.Align) (dropped (word terminal.Integer))

-- section STRING
abbrev pub section_row : Row Located (Unit {0})
section_row = keep_second (word terminal.Section) (dropped (word terminal.Quoted))

-- a word and what is in its brackets
abbrev pub function_list_row : Row Located (Unit {0})
function_list_row = keep_second (word terminal.FunctionDroppedList) (matched_row terminal.OpenParenthesis)

-- uwtable, which may have brackets
abbrev pub unwind_table_row : Row Located (Unit {0})
unwind_table_row = keep_second (word terminal.UnwindTable) (dropped (optional class (matched_row terminal.OpenParenthesis)))

-- the classes that may begin what is dropped behind a function
abbrev pub function_attribute_first : List ℕ
function_attribute_first =
    function_word_classes ++ code terminal.Quoted ∷ code terminal.Align ∷ code terminal.Section ∷ code terminal.FunctionDroppedList ∷ code terminal.UnwindTable ∷ []

-- how the attribute of a function begins and goes on
abbrev pub function_attribute_shape : PhraseShape
function_attribute_shape = record { first = function_attribute_first; more = code terminal.Equals ∷ code terminal.OpenParenthesis ∷ []; empty = false }

-- FDROP
unfoldable pub function_attribute_core : Row Located (Unit {0})
function_attribute_core =
    alt class function_word_row (alt class function_string_row (alt class function_alignment_row (alt class section_row (alt class function_list_row unwind_table_row))))

-- the attribute of a function
abbrev pub function_attribute_row : Row Located (Unit {0})
function_attribute_row = labelled function_attribute_shape function_attribute_core

-- FDROP*, by its parts
unfoldable pub function_attributes_core : Row Located (Unit {0})
function_attributes_core = loop class function_attribute_shape (λ u. function_attribute_row) tt

-- how the attributes of a function begin and go on
abbrev pub function_attributes_shape : PhraseShape
function_attributes_shape = record { first = function_attribute_first; more = function_attribute_shape.more ++ function_attribute_first; empty = true }

-- FDROP*
abbrev pub function_attributes_row : Row Located (Unit {0})
function_attributes_row = labelled function_attributes_shape function_attributes_core

-- CC?
abbrev pub convention_row : Row Located (Unit {0})
convention_row = dropped (optional class (word terminal.CallingConvention))
