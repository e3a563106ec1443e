-- The rows of instructions and blocks, within limits that are wider.
use Rattle.std.proofs.Common.{[], ◌∷◌, ℕ, List, Bool, true, false, refl, None}
use Rattle.ir_lexer.specs.Ahead.{Located}
use Rattle.ir_tables.specs.declared.opcode.Opcode.{Opcode}
use Rattle.ir_tables.specs.declared.opcode.Opcode.TheVariants as op
use Rattle.ir_terminals.specs.PhraseRows.Row.{Row, fail, one, mapped, nothing, optional}
use Rattle.ir_terminals.specs.declared.limits.Limits.{Limits}
use Rattle.ir_terminals.specs.declared.terminal.Terminal.TheVariants as terminal
use Rattle.ir_terminals.specs.Role.{class}
use Rattle.ir_terminals.specs.Values.{opcode_of}
use Rattle.ir_terminals.specs.Tokens.{word, local_row, label_row, predicate_row}
use Rattle.ir_phrases.specs.Constants.Flags.{flags_row}
use Rattle.ir_phrases.specs.Instructions.Tree.{SignatureTree, ReturnVoid, Jump}
use Rattle.ir_phrases.specs.Instructions.Dropped.{attachment_row, attachments_row, comma_shape, commas_shape, parameter_attributes_row, convention_row}
use Rattle.ir_phrases.specs.Instructions.Tails.{alignment_behind_row, alignment_row, count_behind_row, count_core, count_row, ListedParts, listed_step, listed_core, listed_row}
use Rattle.ir_phrases.specs.Instructions.Calls.{signature_step, some_types_row, signature_types_row, signature_core, signature_row, argument_core, argument_row, argument_list_core, argument_list_row, arguments_core, arguments_row, result_type_core, result_type_row, call_end_row, called_core, called_row, call_core, call_row}
use Rattle.ir_phrases.specs.Instructions.Operations.{next_value_core, next_value_row, next_typed_value_core, next_typed_value_row, operands_core, operands_row, cast_type_core, cast_type_row, arms_core, arms_row, address_core, address_row, from_block_row, incoming_core, incoming_row, operand_list_core, operand_list_row, indices_row, operation_shape, binary_core, binary_row, compare_core, cast_core, cast_row, select_core, freeze_core, phi_core, load_core, store_core, alloca_core, element_address_core, extract_core, insert_core, operation_core}
use Rattle.ir_phrases.specs.Instructions.Endings.{target_row, next_target_row, return_value_core, return_value_row, return_core, return_row, condition_row, branch_target_core, branch_target_row, branch_core, branch_row, case_core, case_row, cases_core, cases_row, switch_targets_core, switch_targets_row, switch_core, switch_row, unreachable_row, ending_core, ending_row}
use Rattle.ir_phrases.specs.Instructions.Instructions.{result_classes, operation_classes, marked_call_row, operation_over_core, operation_over, assigned_row, bare_row, instruction_core, instruction_row, instructions_row}
use Rattle.ir_phrases.specs.Instructions.Blocks.{block_core, block_row, blocks_row}
use Rattle.ir_syntax.proofs.Widened.{IsWidened, widened_same, widened_labelled, widened_alt, widened_chain, widened_mapped, widened_second, widened_both, widened_before, widened_pair, widened_optional, widened_many, widened_loop, widened_separated}
use Rattle.ir_syntax.proofs.WidenedConstants.{IsWider, widened_word, widened_type, widened_value_type, widened_typed_constant, widened_value, widened_typed_value}

-- parts behind commas
module _ {A : Type 0} {may : Located → Bool} {p q : Row Located A} (h : IsWidened may p q) where
  widened_listed_step : (s : ListedParts A) → IsWidened may (listed_step p s) (listed_step q s)
  widened_listed_step (parts, true) = widened_same (listed_step p (parts, true))
  widened_listed_step (parts, false) =
      widened_second (widened_word terminal.Comma) (widened_alt class (widened_same (mapped (λ u. (parts, true)) attachment_row)) (widened_mapped h) refl)

  widened_listed_core : (parts : List A) → IsWidened may (listed_core p parts) (listed_core q parts)
  unfolding listed_core
  widened_listed_core parts = widened_mapped (widened_loop class comma_shape widened_listed_step (parts, false))

  widened_listed : (parts : List A) → IsWidened may (listed_row p parts) (listed_row q parts)
  widened_listed parts = widened_labelled (widened_listed_core parts)

module _ {may : Located → Bool} {narrow wide : Limits} (wider : IsWider may narrow wide) where
  widened_count_behind : IsWidened may (count_behind_row narrow) (count_behind_row wide)
  widened_count_behind =
      widened_alt class (widened_pair (widened_mapped (widened_typed_value wider)) (widened_same alignment_row))
      (widened_same (mapped (λ a. (None, a)) alignment_behind_row)) refl

  widened_count_core : IsWidened may (count_core narrow) (count_core wide)
  unfolding count_core
  widened_count_core = widened_alt class (widened_second (widened_word terminal.Comma) widened_count_behind) (widened_same (nothing (None, None))) refl

  widened_count : IsWidened may (count_row narrow) (count_row wide)
  widened_count = widened_labelled widened_count_core

  -- calls
  widened_signature_step : (s : SignatureTree) → IsWidened may (signature_step narrow s) (signature_step wide s)
  widened_signature_step (types, true) = widened_same (fail comma_shape)
  widened_signature_step (types, false) =
      widened_second (widened_word terminal.Comma)
      (widened_alt class (widened_same (mapped (λ p. (types, true)) (word terminal.Dots))) (widened_mapped (widened_type wider)) refl)

  widened_some_types : IsWidened may (some_types_row narrow) (some_types_row wide)
  widened_some_types = widened_chain commas_shape commas_shape (widened_type wider) (λ t. widened_loop class comma_shape widened_signature_step (t ∷ [], false))

  widened_signature_types : IsWidened may (signature_types_row narrow) (signature_types_row wide)
  widened_signature_types =
      widened_alt class (widened_same (mapped (λ p. ([], true)) (word terminal.Dots)))
      (widened_alt class widened_some_types (widened_same (nothing ([], false))) refl) refl

  widened_signature_core : IsWidened may (signature_core narrow) (signature_core wide)
  unfolding signature_core
  widened_signature_core =
      widened_optional class (widened_second (widened_word terminal.OpenParenthesis) (widened_before widened_signature_types (widened_word terminal.CloseParenthesis))) refl

  pub widened_signature : IsWidened may (signature_row narrow) (signature_row wide)
  widened_signature = widened_labelled widened_signature_core

  widened_argument_core : IsWidened may (argument_core narrow) (argument_core wide)
  unfolding argument_core
  widened_argument_core = widened_pair (widened_type wider) (widened_second (widened_same parameter_attributes_row) (widened_value wider))

  widened_argument : IsWidened may (argument_row narrow) (argument_row wide)
  widened_argument = widened_labelled widened_argument_core

  widened_argument_list_core : IsWidened may (argument_list_core narrow) (argument_list_core wide)
  unfolding argument_list_core
  widened_argument_list_core = widened_separated class (word terminal.Comma) widened_argument refl

  widened_argument_list : IsWidened may (argument_list_row narrow) (argument_list_row wide)
  widened_argument_list = widened_labelled widened_argument_list_core

  widened_arguments_core : IsWidened may (arguments_core narrow) (arguments_core wide)
  unfolding arguments_core
  widened_arguments_core =
      widened_second (widened_word terminal.OpenParenthesis) (widened_before widened_argument_list (widened_word terminal.CloseParenthesis))

  widened_arguments : IsWidened may (arguments_row narrow) (arguments_row wide)
  widened_arguments = widened_labelled widened_arguments_core

  widened_result_type_core : IsWidened may (result_type_core narrow) (result_type_core wide)
  unfolding result_type_core
  widened_result_type_core = widened_second (widened_same convention_row) (widened_second (widened_same parameter_attributes_row) (widened_type wider))

  widened_result_type : IsWidened may (result_type_row narrow) (result_type_row wide)
  widened_result_type = widened_labelled widened_result_type_core

  widened_called_core : IsWidened may (called_core narrow) (called_core wide)
  unfolding called_core
  widened_called_core = widened_pair (widened_value wider) (widened_before widened_arguments (widened_same call_end_row))

  widened_called : IsWidened may (called_row narrow) (called_row wide)
  widened_called = widened_labelled widened_called_core

  widened_call_core : IsWidened may (call_core narrow) (call_core wide)
  unfolding call_core
  widened_call_core = widened_mapped (widened_pair widened_result_type (widened_pair widened_signature widened_called))

  widened_call : IsWidened may (call_row narrow) (call_row wide)
  widened_call = widened_labelled widened_call_core

  -- what follows an opcode
  widened_next_value_core : IsWidened may (next_value_core narrow) (next_value_core wide)
  unfolding next_value_core
  widened_next_value_core = widened_second (widened_word terminal.Comma) (widened_value wider)

  widened_next_value : IsWidened may (next_value_row narrow) (next_value_row wide)
  widened_next_value = widened_labelled widened_next_value_core

  widened_next_typed_value_core : IsWidened may (next_typed_value_core narrow) (next_typed_value_core wide)
  unfolding next_typed_value_core
  widened_next_typed_value_core = widened_second (widened_word terminal.Comma) (widened_typed_value wider)

  widened_next_typed_value : IsWidened may (next_typed_value_row narrow) (next_typed_value_row wide)
  widened_next_typed_value = widened_labelled widened_next_typed_value_core

  widened_operands_core : IsWidened may (operands_core narrow) (operands_core wide)
  unfolding operands_core
  widened_operands_core = widened_pair (widened_typed_value wider) (widened_before widened_next_value (widened_same attachments_row))

  widened_operands : IsWidened may (operands_row narrow) (operands_row wide)
  widened_operands = widened_labelled widened_operands_core

  widened_cast_type_core : IsWidened may (cast_type_core narrow) (cast_type_core wide)
  unfolding cast_type_core
  widened_cast_type_core = widened_second (widened_word terminal.To) (widened_before (widened_type wider) (widened_same attachments_row))

  widened_cast_type : IsWidened may (cast_type_row narrow) (cast_type_row wide)
  widened_cast_type = widened_labelled widened_cast_type_core

  widened_arms_core : IsWidened may (arms_core narrow) (arms_core wide)
  unfolding arms_core
  widened_arms_core = widened_pair widened_next_typed_value (widened_before widened_next_typed_value (widened_same attachments_row))

  widened_arms : IsWidened may (arms_row narrow) (arms_row wide)
  widened_arms = widened_labelled widened_arms_core

  widened_address_core : IsWidened may (address_core narrow) (address_core wide)
  unfolding address_core
  widened_address_core = widened_pair widened_next_typed_value (widened_same alignment_row)

  widened_address : IsWidened may (address_row narrow) (address_row wide)
  widened_address = widened_labelled widened_address_core

  widened_incoming_core : IsWidened may (incoming_core narrow) (incoming_core wide)
  unfolding incoming_core
  widened_incoming_core = widened_second (widened_word terminal.OpenBracket) (widened_pair (widened_value wider) (widened_same from_block_row))

  widened_incoming : IsWidened may (incoming_row narrow) (incoming_row wide)
  widened_incoming = widened_labelled widened_incoming_core

  widened_operand_list_core : IsWidened may (operand_list_core narrow) (operand_list_core wide)
  unfolding operand_list_core
  widened_operand_list_core = widened_chain commas_shape commas_shape widened_next_typed_value (λ t. widened_listed (widened_typed_value wider) (t ∷ []))

  widened_operand_list : IsWidened may (operand_list_row narrow) (operand_list_row wide)
  widened_operand_list = widened_labelled widened_operand_list_core

  widened_binary_core : (opcode : Opcode) → IsWidened may (binary_core opcode narrow) (binary_core opcode wide)
  unfolding binary_core
  widened_binary_core opcode = widened_mapped (widened_pair (widened_same (flags_row opcode)) widened_operands)

  widened_binary : (opcode : Opcode) → IsWidened may (binary_row opcode narrow) (binary_row opcode wide)
  widened_binary opcode = widened_labelled (widened_binary_core opcode)

  widened_compare_core : IsWidened may (compare_core narrow) (compare_core wide)
  unfolding compare_core
  widened_compare_core = widened_mapped (widened_pair (widened_same (flags_row op.ICmp)) (widened_pair (widened_same predicate_row) widened_operands))

  widened_cast_core : (opcode : Opcode) → IsWidened may (cast_core opcode narrow) (cast_core opcode wide)
  unfolding cast_core
  widened_cast_core opcode = widened_mapped (widened_pair (widened_same (flags_row opcode)) (widened_pair (widened_typed_value wider) widened_cast_type))

  widened_cast : (opcode : Opcode) → IsWidened may (cast_row opcode narrow) (cast_row opcode wide)
  widened_cast opcode = widened_labelled (widened_cast_core opcode)

  widened_select_core : IsWidened may (select_core narrow) (select_core wide)
  unfolding select_core
  widened_select_core = widened_mapped (widened_pair (widened_typed_value wider) widened_arms)

  widened_freeze_core : IsWidened may (freeze_core narrow) (freeze_core wide)
  unfolding freeze_core
  widened_freeze_core = widened_mapped (widened_before (widened_typed_value wider) (widened_same attachments_row))

  widened_phi_core : IsWidened may (phi_core narrow) (phi_core wide)
  unfolding phi_core
  widened_phi_core =
      widened_mapped (widened_pair (widened_type wider) (widened_chain commas_shape commas_shape widened_incoming (λ i. widened_listed widened_incoming (i ∷ []))))

  widened_load_core : IsWidened may (load_core narrow) (load_core wide)
  unfolding load_core
  widened_load_core = widened_mapped (widened_pair (widened_same (flags_row op.Load)) (widened_pair (widened_type wider) widened_address))

  widened_store_core : IsWidened may (store_core narrow) (store_core wide)
  unfolding store_core
  widened_store_core = widened_mapped (widened_pair (widened_same (flags_row op.Store)) (widened_pair (widened_typed_value wider) widened_address))

  widened_alloca_core : IsWidened may (alloca_core narrow) (alloca_core wide)
  unfolding alloca_core
  widened_alloca_core = widened_mapped (widened_pair (widened_type wider) widened_count)

  widened_element_address_core : IsWidened may (element_address_core narrow) (element_address_core wide)
  unfolding element_address_core
  widened_element_address_core = widened_mapped (widened_pair (widened_same (flags_row op.GetElementPtr)) (widened_pair (widened_type wider) widened_operand_list))

  widened_extract_core : IsWidened may (extract_core narrow) (extract_core wide)
  unfolding extract_core
  widened_extract_core = widened_mapped (widened_pair (widened_typed_value wider) (widened_same indices_row))

  widened_insert_core : IsWidened may (insert_core narrow) (insert_core wide)
  unfolding insert_core
  widened_insert_core = widened_mapped (widened_pair (widened_typed_value wider) (widened_pair widened_next_typed_value (widened_same indices_row)))

  widened_operation_core : (opcode : Opcode) → IsWidened may (operation_core narrow opcode) (operation_core wide opcode)
  unfolding operation_core
  widened_operation_core op.ICmp = widened_labelled widened_compare_core
  widened_operation_core op.Trunc = widened_cast op.Trunc
  widened_operation_core op.ZExt = widened_cast op.ZExt
  widened_operation_core op.SExt = widened_cast op.SExt
  widened_operation_core op.PtrToInt = widened_cast op.PtrToInt
  widened_operation_core op.IntToPtr = widened_cast op.IntToPtr
  widened_operation_core op.Select = widened_labelled widened_select_core
  widened_operation_core op.Freeze = widened_labelled widened_freeze_core
  widened_operation_core op.Phi = widened_labelled widened_phi_core
  widened_operation_core op.Load = widened_labelled widened_load_core
  widened_operation_core op.Store = widened_labelled widened_store_core
  widened_operation_core op.Alloca = widened_labelled widened_alloca_core
  widened_operation_core op.GetElementPtr = widened_labelled widened_element_address_core
  widened_operation_core op.Call = widened_labelled widened_call_core
  widened_operation_core op.ExtractValue = widened_labelled widened_extract_core
  widened_operation_core op.InsertValue = widened_labelled widened_insert_core
  widened_operation_core op.Ret = widened_same (fail operation_shape)
  widened_operation_core op.Br = widened_same (fail operation_shape)
  widened_operation_core op.Switch = widened_same (fail operation_shape)
  widened_operation_core op.Unreachable = widened_same (fail operation_shape)
  widened_operation_core opcode = widened_binary opcode

  -- instructions
  widened_marked_call : IsWidened may (marked_call_row narrow) (marked_call_row wide)
  widened_marked_call = widened_second (widened_word terminal.TailMark) (widened_second (widened_word (terminal.Opcode op.Call)) widened_call)

  widened_operation_over_core : (classes : List ℕ) → IsWidened may (operation_over_core classes narrow) (operation_over_core classes wide)
  unfolding operation_over_core
  widened_operation_over_core classes =
      widened_alt class widened_marked_call
      (widened_chain operation_shape operation_shape (widened_same (one class classes opcode_of)) (λ opcode. widened_labelled {s = operation_shape} (widened_operation_core opcode))) refl

  widened_operation_over : (classes : List ℕ) → IsWidened may (operation_over classes narrow) (operation_over classes wide)
  widened_operation_over classes = widened_labelled (widened_operation_over_core classes)

  widened_assigned : IsWidened may (assigned_row narrow) (assigned_row wide)
  widened_assigned = widened_mapped (widened_pair (widened_before (widened_same local_row) (widened_word terminal.Equals)) (widened_operation_over result_classes))

  widened_bare : IsWidened may (bare_row narrow) (bare_row wide)
  widened_bare = widened_mapped (widened_operation_over operation_classes)

  widened_instruction_core : IsWidened may (instruction_core narrow) (instruction_core wide)
  unfolding instruction_core
  widened_instruction_core = widened_alt class widened_assigned widened_bare refl

  widened_instruction : IsWidened may (instruction_row narrow) (instruction_row wide)
  widened_instruction = widened_labelled widened_instruction_core

  widened_instructions : IsWidened may (instructions_row narrow) (instructions_row wide)
  widened_instructions = widened_many class widened_instruction refl

  -- what ends a block
  widened_return_value_core : IsWidened may (return_value_core narrow) (return_value_core wide)
  unfolding return_value_core
  widened_return_value_core =
      widened_alt class (widened_same (mapped (λ p. ReturnVoid) (word terminal.Void))) (widened_mapped (widened_pair (widened_value_type wider) (widened_value wider))) refl

  widened_return_value : IsWidened may (return_value_row narrow) (return_value_row wide)
  widened_return_value = widened_labelled widened_return_value_core

  widened_return_core : IsWidened may (return_core narrow) (return_core wide)
  unfolding return_core
  widened_return_core = widened_second (widened_word (terminal.Opcode op.Ret)) (widened_before widened_return_value (widened_same attachments_row))

  widened_return : IsWidened may (return_row narrow) (return_row wide)
  widened_return = widened_labelled widened_return_core

  widened_condition : IsWidened may (condition_row narrow) (condition_row wide)
  widened_condition = widened_mapped (widened_pair (widened_typed_value wider) (widened_pair (widened_same next_target_row) (widened_same next_target_row)))

  widened_branch_target_core : IsWidened may (branch_target_core narrow) (branch_target_core wide)
  unfolding branch_target_core
  widened_branch_target_core = widened_alt class (widened_same (mapped Jump target_row)) widened_condition refl

  widened_branch_target : IsWidened may (branch_target_row narrow) (branch_target_row wide)
  widened_branch_target = widened_labelled widened_branch_target_core

  widened_branch_core : IsWidened may (branch_core narrow) (branch_core wide)
  unfolding branch_core
  widened_branch_core = widened_second (widened_word (terminal.Opcode op.Br)) (widened_before widened_branch_target (widened_same attachments_row))

  widened_branch : IsWidened may (branch_row narrow) (branch_row wide)
  widened_branch = widened_labelled widened_branch_core

  widened_case_core : IsWidened may (case_core narrow) (case_core wide)
  unfolding case_core
  widened_case_core = widened_pair (widened_typed_constant wider) (widened_same next_target_row)

  widened_case : IsWidened may (case_row narrow) (case_row wide)
  widened_case = widened_labelled widened_case_core

  widened_cases_core : IsWidened may (cases_core narrow) (cases_core wide)
  unfolding cases_core
  widened_cases_core = widened_second (widened_word terminal.OpenBracket) (widened_before (widened_many class widened_case refl) (widened_word terminal.CloseBracket))

  widened_cases : IsWidened may (cases_row narrow) (cases_row wide)
  widened_cases = widened_labelled widened_cases_core

  widened_switch_targets_core : IsWidened may (switch_targets_core narrow) (switch_targets_core wide)
  unfolding switch_targets_core
  widened_switch_targets_core = widened_pair (widened_same next_target_row) (widened_before widened_cases (widened_same attachments_row))

  widened_switch_targets : IsWidened may (switch_targets_row narrow) (switch_targets_row wide)
  widened_switch_targets = widened_labelled widened_switch_targets_core

  widened_switch_core : IsWidened may (switch_core narrow) (switch_core wide)
  unfolding switch_core
  widened_switch_core =
      widened_second (widened_word (terminal.Opcode op.Switch)) (widened_mapped (widened_pair (widened_typed_value wider) widened_switch_targets))

  widened_switch : IsWidened may (switch_row narrow) (switch_row wide)
  widened_switch = widened_labelled widened_switch_core

  widened_ending_core : IsWidened may (ending_core narrow) (ending_core wide)
  unfolding ending_core
  widened_ending_core =
      widened_alt class widened_return
      (widened_alt class widened_branch
      (widened_alt class widened_switch (widened_same unreachable_row) refl) refl) refl

  widened_ending : IsWidened may (ending_row narrow) (ending_row wide)
  widened_ending = widened_labelled widened_ending_core

  -- blocks
  widened_block_core : IsWidened may (block_core narrow) (block_core wide)
  unfolding block_core
  widened_block_core = widened_mapped (widened_pair (widened_same (optional class label_row)) (widened_pair widened_instructions widened_ending))

  widened_block : IsWidened may (block_row narrow) (block_row wide)
  widened_block = widened_labelled widened_block_core

  pub widened_blocks : IsWidened may (blocks_row narrow) (blocks_row wide)
  widened_blocks =
      widened_second (widened_word terminal.OpenBrace)
      (widened_before (widened_both widened_block (widened_many class widened_block refl)) (widened_word terminal.CloseBrace))
