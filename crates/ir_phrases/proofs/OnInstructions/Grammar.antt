-- The rows of instructions, ends and blocks are read.
use Rattle.std.proofs.Common.{◌≡◌, ℕ, List, [], ◌∷◌, refl, true}
use Rattle.ir_tables.specs.declared.opcode.Opcode.TheVariants as op
use Rattle.ir_terminals.specs.PhraseRows.Row.{apart, within}
use Rattle.ir_terminals.specs.PhraseRows.Reads.{Reads}
use Rattle.ir_terminals.proofs.OnPhraseRows.Plain.{reads_one, reads_mapped, reads_labelled, reads_wider}
use Rattle.ir_terminals.proofs.OnPhraseRows.Chain.{reads_chain, reads_both, reads_second, reads_before, reads_pair}
use Rattle.ir_terminals.proofs.OnPhraseRows.Alt.{reads_alt, reads_optional}
use Rattle.ir_terminals.proofs.OnPhraseRows.Repeated.{reads_many}
use Rattle.ir_terminals.specs.declared.limits.Limits.{Limits}
use Rattle.ir_terminals.specs.declared.terminal.Terminal.TheVariants as terminal
use Rattle.ir_terminals.specs.Role.{class}
use Rattle.ir_terminals.specs.Terminal.{code}
use Rattle.ir_terminals.specs.Values.{opcode_of}
use Rattle.ir_terminals.proofs.RowsRead.{reads_word, reads_label, reads_local}
use Rattle.ir_phrases.specs.Constants.Types.{type_shape}
use Rattle.ir_phrases.proofs.OnConstants.Grammar.{reads_value_type, reads_value, reads_typed_value, reads_typed_constant}
use Rattle.ir_phrases.specs.Instructions.Instructions.{result_classes, operation_classes, marked_call_row, operation_over_shape, operation_over_core, assigned_row, bare_row, instruction_shape, instruction_core, instruction_row, instructions_row}
use Rattle.ir_phrases.specs.Instructions.Operations.{tail_shape}
use Rattle.ir_phrases.specs.Instructions.Endings.{target_shape, target_core, target_row, next_target_core, next_target_row, returned_row, return_value_core, return_value_row, return_shape, return_core, return_row, condition_row, branch_target_shape, branch_target_core, branch_target_row, branch_shape, branch_core, branch_row, case_core, case_row, case_list_row, cases_shape, cases_core, cases_row, switch_targets_core, switch_targets_row, switch_shape, switch_core, switch_row, unreachable_shape, unreachable_core, unreachable_row, ending_shape, ending_core, ending_row}
use Rattle.ir_phrases.specs.Instructions.Blocks.{block_shape, block_core, block_row, block_list_row, blocks_row}
use Rattle.ir_phrases.specs.Instructions.Dropped.{attachment_row, attachments_row, comma_shape, commas_shape, parameter_attributes_shape, parameter_attributes_row, function_attributes_shape, function_attributes_row, convention_row}
use Rattle.ir_phrases.proofs.OnInstructions.DroppedGrammar as dropped
use Rattle.ir_phrases.proofs.OnInstructions.CallsGrammar.{reads_call}
use Rattle.ir_phrases.proofs.OnInstructions.OperationsGrammar.{reads_operation_behind}

pub reads_attachments : Reads class attachments_row commas_shape
reads_attachments = dropped.reads_attachments

reads_marked_call : (limits : Limits) → Reads class (marked_call_row limits) (marked_call_row limits).shape
reads_marked_call limits =
    reads_second class (reads_word terminal.TailMark) (reads_second class (reads_word (terminal.Opcode op.Call)) (reads_call limits) refl) refl

reads_operation_over_core : (classes : List ℕ) (limits : Limits) → apart (code terminal.TailMark ∷ []) classes ≡ true → within (code terminal.TailMark ∷ classes) (code terminal.TailMark ∷ classes) ≡ true → Reads class (operation_over_core classes limits) (operation_over_shape classes)
unfolding operation_over_core
reads_operation_over_core classes limits ok same =
    reads_wider class (operation_over_shape classes)
    (reads_alt class (reads_marked_call limits)
    (reads_chain class (reads_one class classes opcode_of) (reads_operation_behind limits) refl) ok refl) same refl (λ e. e)

reads_assigned : (limits : Limits) → Reads class (assigned_row limits) (assigned_row limits).shape
reads_assigned limits =
    reads_mapped class _
    (reads_pair class (reads_before class reads_local (reads_word terminal.Equals) refl)
    (reads_labelled (reads_operation_over_core result_classes limits refl refl)) refl)

reads_bare : (limits : Limits) → Reads class (bare_row limits) (bare_row limits).shape
reads_bare limits = reads_mapped class _ (reads_labelled (reads_operation_over_core operation_classes limits refl refl))

reads_instruction_core : (limits : Limits) → Reads class (instruction_core limits) instruction_shape
unfolding instruction_core
reads_instruction_core limits =
    reads_wider class instruction_shape (reads_alt class (reads_assigned limits) (reads_bare limits) refl refl) refl refl (λ e. e)

pub reads_instruction : (limits : Limits) → Reads class (instruction_row limits) instruction_shape
reads_instruction limits = reads_labelled (reads_instruction_core limits)

pub reads_instructions : (limits : Limits) → Reads class (instructions_row limits) (instructions_row limits).shape
reads_instructions limits = reads_many class (reads_instruction limits) refl refl

reads_target_core : Reads class target_core target_shape
unfolding target_core
reads_target_core =
    reads_second class (reads_word terminal.LabelWord) reads_local refl

reads_target : Reads class target_row target_shape
reads_target = reads_labelled reads_target_core

reads_next_target_core : Reads class next_target_core comma_shape
unfolding next_target_core
reads_next_target_core =
    reads_second class (reads_word terminal.Comma) reads_target refl

reads_next_target : Reads class next_target_row comma_shape
reads_next_target = reads_labelled reads_next_target_core

reads_returned : (limits : Limits) → Reads class (returned_row limits) (returned_row limits).shape
reads_returned limits = reads_mapped class _ (reads_pair class (reads_value_type limits) (reads_value limits) refl)

reads_return_value_core : (limits : Limits) → Reads class (return_value_core limits) type_shape
unfolding return_value_core
reads_return_value_core limits =
    reads_alt class (reads_mapped class _ (reads_word terminal.Void)) (reads_returned limits) refl refl

reads_return_value : (limits : Limits) → Reads class (return_value_row limits) type_shape
reads_return_value limits = reads_labelled (reads_return_value_core limits)

reads_return_core : (limits : Limits) → Reads class (return_core limits) return_shape
unfolding return_core
reads_return_core limits =
    reads_second class (reads_word (terminal.Opcode op.Ret)) (reads_before class (reads_return_value limits) reads_attachments refl) refl

reads_return : (limits : Limits) → Reads class (return_row limits) return_shape
reads_return limits = reads_labelled (reads_return_core limits)

reads_condition : (limits : Limits) → Reads class (condition_row limits) (condition_row limits).shape
reads_condition limits =
    reads_mapped class _ (reads_pair class (reads_typed_value limits) (reads_pair class reads_next_target reads_next_target refl) refl)

reads_branch_target_core : (limits : Limits) → Reads class (branch_target_core limits) branch_target_shape
unfolding branch_target_core
reads_branch_target_core limits =
    reads_alt class (reads_mapped class _ reads_target) (reads_condition limits) refl refl

reads_branch_target : (limits : Limits) → Reads class (branch_target_row limits) branch_target_shape
reads_branch_target limits = reads_labelled (reads_branch_target_core limits)

reads_branch_core : (limits : Limits) → Reads class (branch_core limits) branch_shape
unfolding branch_core
reads_branch_core limits =
    reads_second class (reads_word (terminal.Opcode op.Br)) (reads_before class (reads_branch_target limits) reads_attachments refl) refl

reads_branch : (limits : Limits) → Reads class (branch_row limits) branch_shape
reads_branch limits = reads_labelled (reads_branch_core limits)

reads_case_core : (limits : Limits) → Reads class (case_core limits) type_shape
unfolding case_core
reads_case_core limits =
    reads_pair class (reads_typed_constant limits) reads_next_target refl

pub reads_case : (limits : Limits) → Reads class (case_row limits) type_shape
reads_case limits = reads_labelled (reads_case_core limits)

reads_case_list : (limits : Limits) → Reads class (case_list_row limits) (case_list_row limits).shape
reads_case_list limits = reads_many class (reads_case limits) refl refl

reads_cases_core : (limits : Limits) → Reads class (cases_core limits) cases_shape
unfolding cases_core
reads_cases_core limits =
    reads_second class (reads_word terminal.OpenBracket) (reads_before class (reads_case_list limits) (reads_word terminal.CloseBracket) refl) refl

reads_cases : (limits : Limits) → Reads class (cases_row limits) cases_shape
reads_cases limits = reads_labelled (reads_cases_core limits)

reads_switch_targets_core : (limits : Limits) → Reads class (switch_targets_core limits) tail_shape
unfolding switch_targets_core
reads_switch_targets_core limits =
    reads_pair class reads_next_target (reads_before class (reads_cases limits) reads_attachments refl) refl

reads_switch_targets : (limits : Limits) → Reads class (switch_targets_row limits) tail_shape
reads_switch_targets limits = reads_labelled (reads_switch_targets_core limits)

reads_switch_core : (limits : Limits) → Reads class (switch_core limits) switch_shape
unfolding switch_core
reads_switch_core limits =
    reads_second class (reads_word (terminal.Opcode op.Switch))
    (reads_mapped class _ (reads_pair class (reads_typed_value limits) (reads_switch_targets limits) refl)) refl

reads_switch : (limits : Limits) → Reads class (switch_row limits) switch_shape
reads_switch limits = reads_labelled (reads_switch_core limits)

reads_unreachable_core : Reads class unreachable_core unreachable_shape
unfolding unreachable_core
reads_unreachable_core =
    reads_mapped class _ (reads_before class (reads_word (terminal.Opcode op.Unreachable)) reads_attachments refl)

reads_unreachable : Reads class unreachable_row unreachable_shape
reads_unreachable = reads_labelled reads_unreachable_core

reads_ending_core : (limits : Limits) → Reads class (ending_core limits) ending_shape
unfolding ending_core
reads_ending_core limits =
    reads_wider class ending_shape
    (reads_alt class (reads_return limits)
    (reads_alt class (reads_branch limits)
    (reads_alt class (reads_switch limits) reads_unreachable refl refl) refl refl) refl refl) refl refl (λ e. e)

pub reads_ending : (limits : Limits) → Reads class (ending_row limits) ending_shape
reads_ending limits = reads_labelled (reads_ending_core limits)

reads_block_core : (limits : Limits) → Reads class (block_core limits) block_shape
unfolding block_core
reads_block_core limits =
    reads_mapped class _
    (reads_pair class (reads_optional class reads_label refl)
    (reads_pair class (reads_instructions limits) (reads_ending limits) refl) refl)

pub reads_block : (limits : Limits) → Reads class (block_row limits) block_shape
reads_block limits = reads_labelled (reads_block_core limits)

reads_block_list : (limits : Limits) → Reads class (block_list_row limits) (block_list_row limits).shape
reads_block_list limits = reads_both class _ (reads_block limits) (reads_many class (reads_block limits) refl refl) refl

pub reads_blocks : (limits : Limits) → Reads class (blocks_row limits) (blocks_row limits).shape
reads_blocks limits =
    reads_second class (reads_word terminal.OpenBrace) (reads_before class (reads_block_list limits) (reads_word terminal.CloseBrace) refl) refl

pub reads_attachment : Reads class attachment_row attachment_row.shape
reads_attachment = dropped.reads_attachment

pub reads_parameter_attributes : Reads class parameter_attributes_row parameter_attributes_shape
reads_parameter_attributes = dropped.reads_parameter_attributes

pub reads_function_attributes : Reads class function_attributes_row function_attributes_shape
reads_function_attributes = dropped.reads_function_attributes

pub reads_convention : Reads class convention_row convention_row.shape
reads_convention = dropped.reads_convention
