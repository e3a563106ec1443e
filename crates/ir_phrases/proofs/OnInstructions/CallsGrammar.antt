-- The rows of calls are read.
use Rattle.std.proofs.Common.{[], ◌∷◌, refl, true, false}
use Rattle.ir_terminals.specs.PhraseRows.Row.{keep_second}
use Rattle.ir_terminals.specs.PhraseRows.Reads.{Reads}
use Rattle.ir_terminals.proofs.OnPhraseRows.Plain.{reads_nothing, reads_fail, reads_mapped, reads_labelled}
use Rattle.ir_terminals.proofs.OnPhraseRows.Chain.{reads_chain, reads_second, reads_before, reads_pair}
use Rattle.ir_terminals.proofs.OnPhraseRows.Alt.{reads_alt, reads_optional}
use Rattle.ir_terminals.proofs.OnPhraseRows.Repeated.{reads_separated}
use Rattle.ir_terminals.proofs.OnPhraseRows.Loop.{reads_loop}
use Rattle.ir_terminals.specs.declared.limits.Limits.{Limits}
use Rattle.ir_terminals.specs.declared.terminal.Terminal.TheVariants as terminal
use Rattle.ir_terminals.specs.Role.{class}
use Rattle.ir_terminals.specs.Tokens.{word}
use Rattle.ir_terminals.proofs.RowsRead.{reads_word}
use Rattle.ir_phrases.specs.Constants.Types.{type_shape, list_shape}
use Rattle.ir_phrases.proofs.OnConstants.Grammar.{reads_type, reads_value}
use Rattle.ir_phrases.specs.Instructions.Tree.{SignatureTree}
use Rattle.ir_phrases.specs.Instructions.Dropped.{comma_shape}
use Rattle.ir_phrases.specs.Instructions.Calls.{signature_step, some_types_row, signature_types_row, signature_shape, signature_core, signature_row, argument_core, argument_row, argument_list_core, argument_list_row, arguments_shape, arguments_core, arguments_row, result_type_shape, result_type_core, call_end_shape, call_end_core, called_shape, called_core, call_shape, call_core, call_row}
use Rattle.ir_phrases.proofs.OnInstructions.DroppedGrammar.{reads_attachments, reads_parameter_attributes, reads_function_attributes, reads_convention}

pub reads_signature_step : (limits : Limits) (s : SignatureTree) → Reads class (signature_step limits s) comma_shape
reads_signature_step limits (types, true) = reads_fail class comma_shape
reads_signature_step limits (types, false) =
    reads_second class (reads_word terminal.Comma)
    (reads_alt class (reads_mapped class _ (reads_word terminal.Dots)) (reads_mapped class _ (reads_type limits)) refl refl) refl

reads_some_types : (limits : Limits) → Reads class (some_types_row limits) (some_types_row limits).shape
reads_some_types limits =
    reads_chain class (reads_type limits) (λ t. reads_loop class (reads_signature_step limits) refl refl (t ∷ [], false)) refl

reads_signature_types : (limits : Limits) → Reads class (signature_types_row limits) (signature_types_row limits).shape
reads_signature_types limits =
    reads_alt class (reads_mapped class _ (reads_word terminal.Dots))
    (reads_alt class (reads_some_types limits) (reads_nothing class _) refl refl) refl refl

reads_signature_core : (limits : Limits) → Reads class (signature_core limits) signature_shape
unfolding signature_core
reads_signature_core limits =
    reads_optional class
    (reads_second class (reads_word terminal.OpenParenthesis)
    (reads_before class (reads_signature_types limits) (reads_word terminal.CloseParenthesis) refl) refl) refl

pub reads_signature : (limits : Limits) → Reads class (signature_row limits) signature_shape
reads_signature limits = reads_labelled (reads_signature_core limits)

reads_argument_core : (limits : Limits) → Reads class (argument_core limits) type_shape
unfolding argument_core
reads_argument_core limits = reads_pair class (reads_type limits) (reads_second class reads_parameter_attributes (reads_value limits) refl) refl

pub reads_argument : (limits : Limits) → Reads class (argument_row limits) type_shape
reads_argument limits = reads_labelled (reads_argument_core limits)

-- an argument behind a comma
pub reads_next_argument : (limits : Limits) → Reads class (keep_second (word terminal.Comma) (argument_row limits)) comma_shape
reads_next_argument limits = reads_second class (reads_word terminal.Comma) (reads_argument limits) refl

reads_argument_list_core : (limits : Limits) → Reads class (argument_list_core limits) list_shape
unfolding argument_list_core
reads_argument_list_core limits = reads_separated class (reads_word terminal.Comma) (reads_argument limits) refl refl refl refl

reads_argument_list : (limits : Limits) → Reads class (argument_list_row limits) list_shape
reads_argument_list limits = reads_labelled (reads_argument_list_core limits)

reads_arguments_core : (limits : Limits) → Reads class (arguments_core limits) arguments_shape
unfolding arguments_core
reads_arguments_core limits =
    reads_second class (reads_word terminal.OpenParenthesis)
    (reads_before class (reads_argument_list limits) (reads_word terminal.CloseParenthesis) refl) refl

reads_arguments : (limits : Limits) → Reads class (arguments_row limits) arguments_shape
reads_arguments limits = reads_labelled (reads_arguments_core limits)

reads_result_type_core : (limits : Limits) → Reads class (result_type_core limits) result_type_shape
unfolding result_type_core
reads_result_type_core limits = reads_second class reads_convention (reads_second class reads_parameter_attributes (reads_type limits) refl) refl

reads_call_end_core : Reads class call_end_core call_end_shape
unfolding call_end_core
reads_call_end_core = reads_second class reads_function_attributes reads_attachments refl

reads_called_core : (limits : Limits) → Reads class (called_core limits) called_shape
unfolding called_core
reads_called_core limits = reads_pair class (reads_value limits) (reads_before class (reads_arguments limits) (reads_labelled reads_call_end_core) refl) refl

pub reads_call_core : (limits : Limits) → Reads class (call_core limits) call_shape
unfolding call_core
reads_call_core limits =
    reads_mapped class _
    (reads_pair class (reads_labelled (reads_result_type_core limits))
    (reads_pair class (reads_signature limits) (reads_labelled (reads_called_core limits)) refl) refl)

pub reads_call : (limits : Limits) → Reads class (call_row limits) call_shape
reads_call limits = reads_labelled (reads_call_core limits)
