-- The rows of what is dropped are read.
use Rattle.std.proofs.Common.{refl}
use Rattle.ir_terminals.specs.PhraseRows.Row.{keep_second}
use Rattle.ir_terminals.specs.PhraseRows.Reads.{Reads}
use Rattle.ir_terminals.proofs.OnPhraseRows.Plain.{reads_one, reads_mapped, reads_labelled}
use Rattle.ir_terminals.proofs.OnPhraseRows.Chain.{reads_second}
use Rattle.ir_terminals.proofs.OnPhraseRows.Alt.{reads_alt, reads_optional}
use Rattle.ir_terminals.proofs.OnPhraseRows.Loop.{reads_loop}
use Rattle.ir_terminals.specs.declared.terminal.Terminal.{Terminal}
use Rattle.ir_terminals.specs.declared.terminal.Terminal.TheVariants as terminal
use Rattle.ir_terminals.specs.Role.{class}
use Rattle.ir_terminals.specs.Tokens.{word}
use Rattle.ir_terminals.proofs.RowsRead.{reads_matched, reads_word}
use Rattle.ir_phrases.specs.Instructions.Dropped.{dropped, attachment_row, attachments_core, attachments_row, comma_shape, commas_shape, parameter_word_row, parameter_alignment_row, parameter_list_row, parameter_attribute_shape, parameter_attribute_row, parameter_attributes_core, parameter_attributes_shape, parameter_attributes_row, function_word_row, function_string_row, function_alignment_row, section_row, function_list_row, unwind_table_row, function_attribute_shape, function_attribute_core, function_attribute_row, function_attributes_core, function_attributes_shape, function_attributes_row, convention_row}

reads_dropped_word : (wanted : Terminal) → Reads class (dropped (word wanted)) (word wanted).shape
reads_dropped_word wanted = reads_mapped class _ (reads_word wanted)

pub reads_attachment : Reads class attachment_row attachment_row.shape
reads_attachment =
    reads_second class (reads_word terminal.MetaName)
    (reads_alt class (reads_dropped_word terminal.MetaNumber)
    (reads_second class (reads_word terminal.MetaMark) (reads_matched terminal.OpenBrace) refl) refl refl) refl

-- a comma and metadata
pub reads_comma_attachment : Reads class (keep_second (word terminal.Comma) attachment_row) comma_shape
reads_comma_attachment = reads_second class (reads_word terminal.Comma) reads_attachment refl

reads_attachments_core : Reads class attachments_core commas_shape
unfolding attachments_core
reads_attachments_core = reads_loop class (λ u. reads_comma_attachment) refl refl tt

pub reads_attachments : Reads class attachments_row commas_shape
reads_attachments = reads_labelled reads_attachments_core

reads_parameter_word : Reads class parameter_word_row parameter_word_row.shape
reads_parameter_word = reads_mapped class _ (reads_one class _ _)

reads_parameter_alignment : Reads class parameter_alignment_row parameter_alignment_row.shape
reads_parameter_alignment =
    reads_second class (reads_word terminal.Align)
    (reads_alt class (reads_dropped_word terminal.Integer)
    (reads_second class (reads_word terminal.OpenParenthesis)
    (reads_second class (reads_word terminal.Integer) (reads_dropped_word terminal.CloseParenthesis) refl) refl) refl refl) refl

reads_parameter_list : Reads class parameter_list_row parameter_list_row.shape
reads_parameter_list = reads_second class (reads_word terminal.ParameterDroppedList) (reads_matched terminal.OpenParenthesis) refl

pub reads_parameter_attribute : Reads class parameter_attribute_row parameter_attribute_shape
reads_parameter_attribute = reads_alt class reads_parameter_word (reads_alt class reads_parameter_alignment reads_parameter_list refl refl) refl refl

reads_parameter_attributes_core : Reads class parameter_attributes_core parameter_attributes_shape
unfolding parameter_attributes_core
reads_parameter_attributes_core = reads_loop class (λ u. reads_parameter_attribute) refl refl tt

pub reads_parameter_attributes : Reads class parameter_attributes_row parameter_attributes_shape
reads_parameter_attributes = reads_labelled reads_parameter_attributes_core

reads_function_word : Reads class function_word_row function_word_row.shape
reads_function_word = reads_mapped class _ (reads_one class _ _)

reads_function_string : Reads class function_string_row function_string_row.shape
reads_function_string =
    reads_second class (reads_word terminal.Quoted)
    (reads_mapped class _ (reads_optional class (reads_second class (reads_word terminal.Equals) (reads_word terminal.Quoted) refl) refl)) refl

reads_function_alignment : Reads class function_alignment_row function_alignment_row.shape
reads_function_alignment = reads_second class (reads_word terminal.Align) (reads_dropped_word terminal.Integer) refl

pub reads_section : Reads class section_row section_row.shape
reads_section = reads_second class (reads_word terminal.Section) (reads_dropped_word terminal.Quoted) refl

reads_function_list : Reads class function_list_row function_list_row.shape
reads_function_list = reads_second class (reads_word terminal.FunctionDroppedList) (reads_matched terminal.OpenParenthesis) refl

reads_unwind_table : Reads class unwind_table_row unwind_table_row.shape
reads_unwind_table =
    reads_second class (reads_word terminal.UnwindTable)
    (reads_mapped class _ (reads_optional class (reads_matched terminal.OpenParenthesis) refl)) refl

reads_function_attribute_core : Reads class function_attribute_core function_attribute_shape
unfolding function_attribute_core
reads_function_attribute_core =
    reads_alt class reads_function_word
    (reads_alt class reads_function_string
    (reads_alt class reads_function_alignment
    (reads_alt class reads_section
    (reads_alt class reads_function_list reads_unwind_table refl refl) refl refl) refl refl) refl refl) refl refl

pub reads_function_attribute : Reads class function_attribute_row function_attribute_shape
reads_function_attribute = reads_labelled reads_function_attribute_core

reads_function_attributes_core : Reads class function_attributes_core function_attributes_shape
unfolding function_attributes_core
reads_function_attributes_core = reads_loop class (λ u. reads_function_attribute) refl refl tt

pub reads_function_attributes : Reads class function_attributes_row function_attributes_shape
reads_function_attributes = reads_labelled reads_function_attributes_core

pub reads_convention : Reads class convention_row convention_row.shape
reads_convention = reads_mapped class _ (reads_optional class (reads_word terminal.CallingConvention) refl)
