-- For `read_items`: the rows of functions: declarations and definitions.
use Rattle.std.specs.Prelude.{Bool, true, false, cond, List, [], ◌∷◌, ◌++◌, map, Some, None}
use Rattle.ir_terminals.specs.PhraseRows.Row.{Row, PhraseShape, fail, one, chain, mapped, keep_second, keep_first, pair, alt, nothing, optional, loop, labelled}
use Rattle.ir_lexer.specs.Ahead.{Located}
use Rattle.ir_terminals.specs.declared.limits.Limits.{Limits}
use Rattle.ir_terminals.specs.declared.terminal.Terminal.TheVariants as terminal
use Rattle.ir_terminals.specs.Role.{class}
use Rattle.ir_terminals.specs.Terminal.{code, linkage_class}
use Rattle.ir_terminals.specs.Tokens.{word, global_name_row, local_row}
use Rattle.ir_phrases.specs.Constants.Tree.{TypeTree}
use Rattle.ir_phrases.specs.Constants.Types.{type_shape, type_row}
use Rattle.ir_phrases.specs.Instructions.Tree.{BlockTree}
use Rattle.ir_phrases.specs.Instructions.Dropped.{comma_shape, attachment_row, parameter_attribute_shape, parameter_attributes_row, function_attribute_shape, function_attributes_row, convention_row}
use Rattle.ir_phrases.specs.Instructions.Calls.{arguments_shape}
use Rattle.ir_phrases.specs.Instructions.Blocks.{blocks_row}
use Rattle.ir_syntax.specs.Tree.{ParameterTree, HeadTree, ItemTree, Declaration, Definition}
use Rattle.ir_syntax.specs.Heads.{optional_linkage_row, global_word_shape, global_words_row}

-- how a parameter begins and goes on
abbrev pub parameter_shape : PhraseShape
parameter_shape = record { first = type_shape.first; more = code terminal.Local ∷ parameter_attribute_shape.first; empty = false }

-- TYPE PDROP* LOCAL?
unfoldable pub parameter_core : Limits → Row Located ParameterTree
parameter_core limits = pair (type_row limits) (keep_second parameter_attributes_row (optional class local_row))

-- a parameter
abbrev pub parameter_row : Limits → Row Located ParameterTree
parameter_row limits = labelled parameter_shape (parameter_core limits)

-- ..., where it may stand
abbrev pub dots_row : Bool → Row Located Bool
dots_row may_stand = one class (code terminal.Dots ∷ []) (λ t. cond may_stand (Some true) None)

-- parameters, and whether `...` ends them
abbrev pub ParametersTree : Type 0
ParametersTree = List ParameterTree × Bool

-- , PARAM or , ..., and nothing behind `...`
abbrev pub parameter_step : Bool → Limits → ParametersTree → Row Located ParametersTree
parameter_step dots limits (parameters, variadic) =
    cond variadic (fail comma_shape)
    (keep_second (word terminal.Comma)
    (alt class
    (mapped (λ d. (parameters, d)) (dots_row dots))
    (mapped (λ p. (parameters ++ p ∷ [], false)) (parameter_row limits))))

-- how further parameters begin and go on
abbrev pub more_parameters_shape : PhraseShape
more_parameters_shape = record { first = comma_shape.first; more = parameter_shape.more ++ comma_shape.first; empty = true }

-- further parameters, each behind a comma
abbrev pub more_parameters_row : Bool → Limits → ParametersTree → Row Located ParametersTree
more_parameters_row dots limits s =
    labelled more_parameters_shape
    (loop class (record { first = comma_shape.first; more = parameter_shape.more; empty = false }) (parameter_step dots limits) s)

-- PARAM (, PARAM)* (, ...)?
abbrev pub some_parameters_row : Bool → Limits → Row Located ParametersTree
some_parameters_row dots limits = chain (parameter_row limits) more_parameters_shape (λ p. more_parameters_row dots limits (p ∷ [], false))

-- PARAM,*, which may end in `...` where that may stand
abbrev pub parameter_list_row : Bool → Limits → Row Located ParametersTree
parameter_list_row dots limits = alt class (mapped (λ d. ([], d)) (dots_row dots)) (alt class (some_parameters_row dots limits) (nothing ([], false)))

-- parameters begin as arguments do
abbrev pub parameters_shape : PhraseShape
parameters_shape = arguments_shape

-- ( PARAM,* )
unfoldable pub parameters_core : Bool → Limits → Row Located ParametersTree
parameters_core dots limits = keep_second (word terminal.OpenParenthesis) (keep_first (parameter_list_row dots limits) (word terminal.CloseParenthesis))

-- ( PARAMETERS )
abbrev pub parameters_row : Bool → Limits → Row Located ParametersTree
parameters_row dots limits = labelled parameters_shape (parameters_core dots limits)

-- how the head of a function begins
abbrev pub head_shape : PhraseShape
head_shape = record {
  first = linkage_class ∷ global_word_shape.first ++ code terminal.CallingConvention ∷ parameter_attribute_shape.first ++ type_shape.first;
  more = [];
  empty = false;
}

-- LINKAGE? GDROP* CC? PDROP* TYPE GLOBAL
unfoldable pub head_core : Limits → Row Located HeadTree
head_core limits =
    mapped (λ (linkage, (returns, name)). record { linkage = linkage; returns = returns; name = name })
    (pair optional_linkage_row
    (keep_second global_words_row
    (keep_second convention_row
    (keep_second parameter_attributes_row (pair (type_row limits) global_name_row)))))

-- the head of a function: its linkage, its result's type and its name
abbrev pub head_row : Limits → Row Located HeadTree
head_row limits = labelled head_shape (head_core limits)

-- how metadata begins
abbrev pub attachment_shape : PhraseShape
attachment_shape = record { first = code terminal.MetaName ∷ []; more = []; empty = false }

-- MD*
abbrev pub metadata_row : Row Located (Unit {0})
metadata_row = loop class attachment_shape (λ u. attachment_row) tt

-- the types of parameters
abbrev pub parameter_types : List ParameterTree → List TypeTree
parameter_types all = map (λ p. p.0) all

-- how a declaration goes on behind its head
abbrev pub declared_shape : PhraseShape
declared_shape = record { first = parameters_shape.first; more = function_attribute_shape.more ++ function_attribute_shape.first; empty = false }

-- ( PARAM,* ) FDROP*, for the types, and whether `...` ends them
unfoldable pub declared_core : Limits → Row Located (List TypeTree × Bool)
declared_core limits =
    mapped (λ (parameters, variadic). (parameter_types parameters, variadic)) (keep_first (parameters_row true limits) function_attributes_row)

-- what stands behind the head of a declaration
abbrev pub declared_row : Limits → Row Located (List TypeTree × Bool)
declared_row limits = labelled declared_shape (declared_core limits)

-- declare MD* LINKAGE? GDROP* CC? PDROP* TYPE GLOBAL ( PARAM,* ) FDROP*
abbrev pub declaration_row : Limits → Row Located ItemTree
declaration_row limits =
    mapped (λ (place, (head, (parameters, variadic))). Declaration place head parameters variadic)
    (pair (word terminal.Declare) (keep_second metadata_row (pair (head_row limits) (declared_row limits))))

-- how what stands behind the parameters of a definition begins
abbrev pub body_shape : PhraseShape
body_shape = record { first = function_attribute_shape.first ++ code terminal.MetaName ∷ code terminal.OpenBrace ∷ []; more = []; empty = false }

-- FDROP* MD* { BLOCK+ }
unfoldable pub body_core : Limits → Row Located (List BlockTree)
body_core limits = keep_second function_attributes_row (keep_second metadata_row (blocks_row limits))

-- what stands behind the parameters of a definition: attributes, metadata and blocks
abbrev pub body_row : Limits → Row Located (List BlockTree)
body_row limits = labelled body_shape (body_core limits)

-- ( PARAM,* ) FDROP* MD* { BLOCK+ }
unfoldable pub defined_core : Limits → Row Located (ParametersTree × List BlockTree)
defined_core limits = pair (parameters_row limits.with_left_out limits) (body_row limits)

-- what stands behind the head of a definition
abbrev pub defined_row : Limits → Row Located (ParametersTree × List BlockTree)
defined_row limits = labelled parameters_shape (defined_core limits)

-- define LINKAGE? GDROP* CC? PDROP* TYPE GLOBAL ( PARAM,* ) FDROP* MD* { BLOCK+ }
abbrev pub definition_row : Limits → Row Located ItemTree
definition_row limits =
    mapped (λ (place, (head, ((parameters, variadic), blocks))). Definition place head parameters blocks)
    (pair (word terminal.Define) (pair (head_row limits) (defined_row limits)))
