-- For `blocks_of` and `signature`: the rows of calls.
use Rattle.std.specs.Prelude.{true, false, cond, List, [], ◌∷◌, ◌++◌, Option}
use Rattle.ir_terminals.specs.PhraseRows.Row.{Row, PhraseShape, fail, chain, mapped, keep_second, keep_first, pair, alt, nothing, optional, separated, loop, labelled}
use Rattle.ir_lexer.specs.Ahead.{Located}
use Rattle.ir_terminals.specs.declared.limits.Limits.{Limits}
use Rattle.ir_terminals.specs.declared.terminal.Terminal.TheVariants as terminal
use Rattle.ir_terminals.specs.Role.{class}
use Rattle.ir_terminals.specs.Terminal.{code}
use Rattle.ir_terminals.specs.Tokens.{word}
use Rattle.ir_phrases.specs.Constants.Tree.{TypeTree, ValueTree, TypedValueTree}
use Rattle.ir_phrases.specs.Constants.Types.{type_shape, list_shape, type_row}
use Rattle.ir_phrases.specs.Constants.Values.{value_shape, value_row}
use Rattle.ir_phrases.specs.Instructions.Tree.{SignatureTree, OperationTree, Call}
use Rattle.ir_phrases.specs.Instructions.Dropped.{comma_shape, commas_shape, attachments_row, parameter_attribute_shape, parameter_attributes_row, function_attributes_shape, function_attributes_row, convention_row}

-- , TYPE or , ..., and nothing behind `...`
abbrev pub signature_step : Limits → SignatureTree → Row Located SignatureTree
signature_step limits (parameters, variadic) =
    cond variadic (fail comma_shape)
    (keep_second (word terminal.Comma)
    (alt class
    (mapped (λ p. (parameters, true)) (word terminal.Dots))
    (mapped (λ t. (parameters ++ t ∷ [], false)) (type_row limits))))

-- TYPE (, TYPE)* (, ...)?
abbrev pub some_types_row : Limits → Row Located SignatureTree
some_types_row limits = chain (type_row limits) commas_shape (λ t. loop class comma_shape (signature_step limits) (t ∷ [], false))

-- TYPE,*, which may end in `...`
abbrev pub signature_types_row : Limits → Row Located SignatureTree
signature_types_row limits = alt class (mapped (λ p. ([], true)) (word terminal.Dots)) (alt class (some_types_row limits) (nothing ([], false)))

-- how a signature begins
abbrev pub signature_shape : PhraseShape
signature_shape = record { first = code terminal.OpenParenthesis ∷ []; more = code terminal.OpenParenthesis ∷ []; empty = true }

-- (( TYPE,* ))?, by its parts
unfoldable pub signature_core : Limits → Row Located (Option SignatureTree)
signature_core limits = optional class (keep_second (word terminal.OpenParenthesis) (keep_first (signature_types_row limits) (word terminal.CloseParenthesis)))

-- (( TYPE,* ))?
abbrev pub signature_row : Limits → Row Located (Option SignatureTree)
signature_row limits = labelled signature_shape (signature_core limits)

-- TYPE PDROP* VALUE
unfoldable pub argument_core : Limits → Row Located TypedValueTree
argument_core limits = pair (type_row limits) (keep_second parameter_attributes_row (value_row limits))

-- TYPE PDROP* VALUE
abbrev pub argument_row : Limits → Row Located TypedValueTree
argument_row limits = labelled type_shape (argument_core limits)

-- (TYPE PDROP* VALUE),*, by its parts
unfoldable pub argument_list_core : Limits → Row Located (List TypedValueTree)
argument_list_core limits = separated class (word terminal.Comma) (argument_row limits)

-- (TYPE PDROP* VALUE),*
abbrev pub argument_list_row : Limits → Row Located (List TypedValueTree)
argument_list_row limits = labelled list_shape (argument_list_core limits)

-- how arguments begin
abbrev pub arguments_shape : PhraseShape
arguments_shape = record { first = code terminal.OpenParenthesis ∷ []; more = []; empty = false }

-- ( (TYPE PDROP* VALUE),* ), by its parts
unfoldable pub arguments_core : Limits → Row Located (List TypedValueTree)
arguments_core limits = keep_second (word terminal.OpenParenthesis) (keep_first (argument_list_row limits) (word terminal.CloseParenthesis))

-- ( (TYPE PDROP* VALUE),* )
abbrev pub arguments_row : Limits → Row Located (List TypedValueTree)
arguments_row limits = labelled arguments_shape (arguments_core limits)

-- how the type of a call's result begins, behind what is dropped
abbrev pub result_type_shape : PhraseShape
result_type_shape = record { first = code terminal.CallingConvention ∷ parameter_attribute_shape.first ++ type_shape.first; more = []; empty = false }

-- CC? PDROP* TYPE, by its parts
unfoldable pub result_type_core : Limits → Row Located TypeTree
result_type_core limits = keep_second convention_row (keep_second parameter_attributes_row (type_row limits))

-- CC? PDROP* TYPE
abbrev pub result_type_row : Limits → Row Located TypeTree
result_type_row limits = labelled result_type_shape (result_type_core limits)

-- how the end of a call begins and goes on
abbrev pub call_end_shape : PhraseShape
call_end_shape = record { first = function_attributes_shape.first ++ commas_shape.first; more = commas_shape.more ++ function_attributes_shape.more; empty = true }

-- FDROP* (, MD)*, by its parts
unfoldable pub call_end_core : Row Located (Unit {0})
call_end_core = keep_second function_attributes_row attachments_row

-- FDROP* (, MD)*
abbrev pub call_end_row : Row Located (Unit {0})
call_end_row = labelled call_end_shape call_end_core

-- how a callee with its arguments begins and goes on
abbrev pub called_shape : PhraseShape
called_shape = record { first = value_shape.first; more = call_end_shape.more; empty = false }

-- VALUE ( (TYPE PDROP* VALUE),* ) FDROP* (, MD)*, by its parts
unfoldable pub called_core : Limits → Row Located (ValueTree × List TypedValueTree)
called_core limits = pair (value_row limits) (keep_first (arguments_row limits) call_end_row)

-- VALUE ( (TYPE PDROP* VALUE),* ) FDROP* (, MD)*
abbrev pub called_row : Limits → Row Located (ValueTree × List TypedValueTree)
called_row limits = labelled called_shape (called_core limits)

-- a call of its parts
abbrev pub call_of : TypeTree × (Option SignatureTree × (ValueTree × List TypedValueTree)) → OperationTree
call_of (returns, (signature, (callee, arguments))) = Call (record { returns = returns; signature = signature; callee = callee; arguments = arguments })

-- how a call goes on behind its opcode
abbrev pub call_shape : PhraseShape
call_shape = record { first = result_type_shape.first; more = called_shape.more; empty = false }

-- CC? PDROP* TYPE (( TYPE,* ))? VALUE ( (TYPE PDROP* VALUE),* ) FDROP* (, MD)*, behind `call`, by its parts
unfoldable pub call_core : Limits → Row Located OperationTree
call_core limits = mapped call_of (pair (result_type_row limits) (pair (signature_row limits) (called_row limits)))

-- CC? PDROP* TYPE (( TYPE,* ))? VALUE ( (TYPE PDROP* VALUE),* ) FDROP* (, MD)*, behind `call`
abbrev pub call_row : Limits → Row Located OperationTree
call_row limits = labelled call_shape (call_core limits)
