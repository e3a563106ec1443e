-- Instructions, ends and blocks of whole phrases have the opcodes, flags and parts of their phrases.
use Rattle.std.proofs.Common.{◌≡◌, ℕ, List, [], ◌∷◌, ◌++◌, Bool, true, false, Some, None, refl}
use Rattle.ir_lexer.specs.Ahead.{Located}
use Rattle.ir_tables.specs.declared.opcode.Opcode.{Opcode}
use Rattle.ir_tables.specs.declared.opcode.Opcode.TheVariants as op
use Rattle.ir_terminals.specs.PhraseRows.Row.{Row, one, keep_first, pair, optional, labelled}
use Rattle.ir_terminals.specs.declared.limits.Limits.{Limits}
use Rattle.ir_terminals.specs.declared.terminal.Terminal.TheVariants as terminal
use Rattle.ir_terminals.specs.Role.{class}
use Rattle.ir_terminals.specs.Values.{opcode_of}
use Rattle.ir_terminals.specs.Tokens.{word, integer_row, local_row, label_row, predicate_row}
use Rattle.ir_phrases.specs.Constants.Types.{type_shape, list_shape, type_row, value_type_row}
use Rattle.ir_phrases.specs.Constants.Values.{typed_value_row}
use Rattle.ir_phrases.specs.Constants.Forms.{AllAre, IsNotEmpty, IsValueFormed, IsOperandFormed}
use Rattle.ir_phrases.proofs.OnConstants.Gives.{Gives, gives_any, gives_weaker, gives_fail, gives_nothing, gives_mapped, gives_chain, gives_both, gives_second, gives_before, gives_pair, gives_alt, gives_many, gives_separated, gives_loop, gives_labelled, all_more}
use Rattle.ir_phrases.proofs.OnConstants.Formed.{gives_flags, gives_value, gives_typed_value, gives_typed_constant}
use Rattle.ir_phrases.specs.Instructions.Dropped.{comma_shape, commas_shape, attachment_row, attachments_row, parameter_attributes_row}
use Rattle.ir_phrases.specs.Instructions.Tails.{ListedParts, listed_step, listed_core, listed_row, alignment_row, alignment_behind_row, count_core}
use Rattle.ir_phrases.specs.Instructions.Calls.{signature_row, argument_core, argument_list_core, arguments_shape, arguments_core, result_type_row, call_end_row, called_shape, called_core, call_shape, call_core}
use Rattle.ir_phrases.specs.Instructions.Operations.{tail_shape, next_value_core, next_value_row, next_typed_value_core, next_typed_value_row, operands_shape, operands_core, operands_row, cast_type_row, arms_core, arms_row, address_core, address_row, from_block_row, incoming_shape, incoming_core, incoming_row, operand_list_core, operand_list_row, indices_core, indices_row, operation_shape, binary_core, compare_core, cast_core, select_core, freeze_core, phi_core, load_core, store_core, alloca_core, element_address_core, extract_core, insert_core, operation_core}
use Rattle.ir_phrases.specs.Instructions.Instructions.{result_classes, operation_classes, operation_over_shape, operation_over_core, operation_over, instruction_shape, instruction_core, instructions_row}
use Rattle.ir_phrases.specs.Instructions.Endings.{target_row, next_target_row, return_value_core, return_shape, return_core, branch_target_shape, branch_target_core, branch_shape, branch_core, case_core, cases_shape, cases_core, switch_targets_core, switch_shape, switch_core, unreachable_shape, unreachable_core, ending_shape, ending_core}
use Rattle.ir_phrases.specs.Instructions.Blocks.{block_shape, block_core, block_row, blocks_row}
use Rattle.ir_phrases.specs.Instructions.Forms.{is_binary, is_cast, IsCountFormed, IsIncomingFormed, IsOperationFormed, IsInstructionFormed, IsCaseFormed, IsEndingFormed, IsBlockFormed}

-- some parts, each of which is so
abbrev AreSome : {A : Type 0} → (A → Type 0) → List A → Type 0
AreSome P xs = IsNotEmpty xs × AllAre P xs

not_empty_more : {A : Type 0} (xs : List A) (a : A) → IsNotEmpty (xs ++ (a ∷ []))
not_empty_more [] a = tt
not_empty_more (x ∷ xs) a = tt

module _ {A : Type 0} (p : Row Located A) (P : A → Type 0) (h : Gives p P) where
  listed_by : (parts : List A) (closed : Bool) → AreSome P parts → Gives (listed_step p (parts, closed)) (λ s. AreSome P s.0)
  listed_by parts true x = gives_second (word terminal.Comma) (gives_mapped _ (λ s. AreSome P s.0) (gives_any attachment_row) (λ u y. x))
  listed_by parts false x =
      gives_second (word terminal.Comma)
      (gives_alt class
      (gives_mapped _ (λ s. AreSome P s.0) (gives_any attachment_row) (λ u y. x))
      (gives_mapped _ (λ s. AreSome P s.0) h (λ a y. (not_empty_more parts a, all_more P parts a x.1 y))))

  listed_given : (s : ListedParts A) → AreSome P s.0 → Gives (listed_step p s) (λ m. AreSome P m.0)
  listed_given (parts, closed) x = listed_by parts closed x

  gives_listed_core : (parts : List A) → AreSome P parts → Gives (listed_core p parts) (AreSome P)
  unfolding listed_core
  gives_listed_core parts x = gives_mapped _ (AreSome P) (gives_loop class comma_shape (λ s. AreSome P s.0) listed_given (parts, false) x) (λ s y. y)

  gives_listed : (parts : List A) → AreSome P parts → Gives (listed_row p parts) (AreSome P)
  gives_listed parts x = gives_labelled commas_shape (gives_listed_core parts x)

  -- behind a first one
  gives_behind_first : (a : A) → P a → Gives (listed_row p (a ∷ [])) (AreSome P)
  gives_behind_first a x = gives_listed (a ∷ []) (tt, (x, tt))

module _ (limits : Limits) where
  gives_next_value_core : Gives (next_value_core limits) IsValueFormed
  unfolding next_value_core
  gives_next_value_core = gives_second (word terminal.Comma) (gives_value limits)

  gives_next_value : Gives (next_value_row limits) IsValueFormed
  gives_next_value = gives_labelled comma_shape gives_next_value_core

  gives_next_core : Gives (next_typed_value_core limits) IsOperandFormed
  unfolding next_typed_value_core
  gives_next_core = gives_second (word terminal.Comma) (gives_typed_value limits)

  gives_next : Gives (next_typed_value_row limits) IsOperandFormed
  gives_next = gives_labelled comma_shape gives_next_core

  gives_operands_core : Gives (operands_core limits) (λ v. IsOperandFormed v.0 × IsValueFormed v.1)
  unfolding operands_core
  gives_operands_core = gives_pair (gives_typed_value limits) (gives_before attachments_row gives_next_value)

  gives_operands : Gives (operands_row limits) (λ v. IsOperandFormed v.0 × IsValueFormed v.1)
  gives_operands = gives_labelled operands_shape gives_operands_core

  gives_arms_core : Gives (arms_core limits) (λ v. IsOperandFormed v.0 × IsOperandFormed v.1)
  unfolding arms_core
  gives_arms_core = gives_pair gives_next (gives_before attachments_row gives_next)

  gives_arms : Gives (arms_row limits) (λ v. IsOperandFormed v.0 × IsOperandFormed v.1)
  gives_arms = gives_labelled tail_shape gives_arms_core

  gives_address_core : Gives (address_core limits) (λ v. IsOperandFormed v.0)
  unfolding address_core
  gives_address_core = gives_weaker (λ v. IsOperandFormed v.0) (gives_pair gives_next (gives_any alignment_row)) (λ v x. x.0)

  gives_address : Gives (address_row limits) (λ v. IsOperandFormed v.0)
  gives_address = gives_labelled tail_shape gives_address_core

  gives_incoming_core : Gives (incoming_core limits) IsIncomingFormed
  unfolding incoming_core
  gives_incoming_core = gives_second (word terminal.OpenBracket) (gives_weaker IsIncomingFormed (gives_pair (gives_value limits) (gives_any from_block_row)) (λ v x. x.0))

  gives_incoming : Gives (incoming_row limits) IsIncomingFormed
  gives_incoming = gives_labelled incoming_shape gives_incoming_core

  gives_operand_list_core : Gives (operand_list_core limits) (AreSome IsOperandFormed)
  unfolding operand_list_core
  gives_operand_list_core =
      gives_chain commas_shape (AreSome IsOperandFormed) gives_next (λ t x. gives_behind_first (typed_value_row limits) IsOperandFormed (gives_typed_value limits) t x)

  gives_operand_list : Gives (operand_list_row limits) (AreSome IsOperandFormed)
  gives_operand_list = gives_labelled tail_shape gives_operand_list_core

  gives_indices_core : Gives indices_core IsNotEmpty
  unfolding indices_core
  gives_indices_core =
      gives_second (word terminal.Comma)
      (gives_chain commas_shape IsNotEmpty (gives_any integer_row)
      (λ i x. gives_weaker IsNotEmpty (gives_behind_first integer_row (λ k. Unit {0}) (gives_any integer_row) i tt) (λ v y. y.0)))

  gives_indices : Gives indices_row IsNotEmpty
  gives_indices = gives_labelled tail_shape gives_indices_core

  gives_count_core : Gives (count_core limits) (λ v. IsCountFormed v.0)
  unfolding count_core
  gives_count_core =
      gives_alt class
      (gives_second (word terminal.Comma)
      (gives_alt class
      (gives_weaker (λ v. IsCountFormed v.0) (gives_pair (gives_mapped Some IsCountFormed (gives_typed_value limits) (λ a x. x)) (gives_any alignment_row)) (λ v x. x.0))
      (gives_mapped _ (λ v. IsCountFormed v.0) (gives_any alignment_behind_row) (λ a x. tt))))
      (gives_nothing (None, None) (λ v. IsCountFormed v.0) tt)

  gives_argument_core : Gives (argument_core limits) IsOperandFormed
  unfolding argument_core
  gives_argument_core = gives_weaker IsOperandFormed (gives_pair (gives_any (type_row limits)) (gives_second parameter_attributes_row (gives_value limits))) (λ v x. x.1)

  gives_argument_list_core : Gives (argument_list_core limits) (AllAre IsOperandFormed)
  unfolding argument_list_core
  gives_argument_list_core = gives_separated class (word terminal.Comma) (gives_labelled type_shape gives_argument_core)

  gives_arguments_core : Gives (arguments_core limits) (AllAre IsOperandFormed)
  unfolding arguments_core
  gives_arguments_core =
      gives_second (word terminal.OpenParenthesis) (gives_before (word terminal.CloseParenthesis) (gives_labelled list_shape gives_argument_list_core))

  gives_called_core : Gives (called_core limits) (λ v. IsValueFormed v.0 × AllAre IsOperandFormed v.1)
  unfolding called_core
  gives_called_core = gives_pair (gives_value limits) (gives_before call_end_row (gives_labelled arguments_shape gives_arguments_core))

  gives_call_core : Gives (call_core limits) IsOperationFormed
  unfolding call_core
  gives_call_core =
      gives_mapped _ IsOperationFormed
      (gives_pair (gives_any (result_type_row limits)) (gives_pair (gives_any (signature_row limits)) (gives_labelled called_shape gives_called_core)))
      (λ v x. x.1.1)

  gives_binary_core : (opcode : Opcode) → is_binary opcode ≡ true → Gives (binary_core opcode limits) IsOperationFormed
  unfolding binary_core
  gives_binary_core opcode ok = gives_mapped _ IsOperationFormed (gives_pair (gives_flags opcode) gives_operands) (λ v x. (ok, x.0, x.1.0, x.1.1))

  gives_compare_core : Gives (compare_core limits) IsOperationFormed
  unfolding compare_core
  gives_compare_core = gives_mapped _ IsOperationFormed (gives_pair (gives_flags op.ICmp) (gives_pair (gives_any predicate_row) gives_operands)) (λ v x. (x.0, x.1.1.0, x.1.1.1))

  gives_cast_core : (opcode : Opcode) → is_cast opcode ≡ true → Gives (cast_core opcode limits) IsOperationFormed
  unfolding cast_core
  gives_cast_core opcode ok =
      gives_mapped _ IsOperationFormed (gives_pair (gives_flags opcode) (gives_pair (gives_typed_value limits) (gives_any (cast_type_row limits)))) (λ v x. (ok, x.0, x.1.0))

  gives_select_core : Gives (select_core limits) IsOperationFormed
  unfolding select_core
  gives_select_core = gives_mapped _ IsOperationFormed (gives_pair (gives_typed_value limits) gives_arms) (λ v x. (x.0, x.1.0, x.1.1))

  gives_freeze_core : Gives (freeze_core limits) IsOperationFormed
  unfolding freeze_core
  gives_freeze_core = gives_mapped _ IsOperationFormed (gives_before attachments_row (gives_typed_value limits)) (λ v x. x)

  gives_phi_core : Gives (phi_core limits) IsOperationFormed
  unfolding phi_core
  gives_phi_core =
      gives_mapped _ IsOperationFormed
      (gives_pair (gives_any (type_row limits))
      (gives_chain commas_shape (AreSome IsIncomingFormed) gives_incoming (λ i x. gives_behind_first (incoming_row limits) IsIncomingFormed gives_incoming i x)))
      (λ v x. x.1)

  gives_load_core : Gives (load_core limits) IsOperationFormed
  unfolding load_core
  gives_load_core = gives_mapped _ IsOperationFormed (gives_pair (gives_flags op.Load) (gives_pair (gives_any (type_row limits)) gives_address)) (λ v x. (x.0, x.1.1))

  gives_store_core : Gives (store_core limits) IsOperationFormed
  unfolding store_core
  gives_store_core = gives_mapped _ IsOperationFormed (gives_pair (gives_flags op.Store) (gives_pair (gives_typed_value limits) gives_address)) (λ v x. (x.0, x.1.0, x.1.1))

  gives_alloca_core : Gives (alloca_core limits) IsOperationFormed
  unfolding alloca_core
  gives_alloca_core = gives_mapped _ IsOperationFormed (gives_pair (gives_any (type_row limits)) (gives_labelled commas_shape gives_count_core)) (λ v x. x.1)

  gives_element_address_core : Gives (element_address_core limits) IsOperationFormed
  unfolding element_address_core
  gives_element_address_core =
      gives_mapped _ IsOperationFormed (gives_pair (gives_flags op.GetElementPtr) (gives_pair (gives_any (type_row limits)) gives_operand_list)) (λ v x. (x.0, x.1.1.0, x.1.1.1))

  gives_extract_core : Gives (extract_core limits) IsOperationFormed
  unfolding extract_core
  gives_extract_core = gives_mapped _ IsOperationFormed (gives_pair (gives_typed_value limits) gives_indices) (λ v x. (x.0, x.1))

  gives_insert_core : Gives (insert_core limits) IsOperationFormed
  unfolding insert_core
  gives_insert_core = gives_mapped _ IsOperationFormed (gives_pair (gives_typed_value limits) (gives_pair gives_next gives_indices)) (λ v x. (x.0, x.1.0, x.1.1))

  -- an operation on two operands, or a cast
  gives_binary : (opcode : Opcode) → is_binary opcode ≡ true → Gives (labelled operation_shape (binary_core opcode limits)) IsOperationFormed
  gives_binary opcode ok = gives_labelled operation_shape (gives_binary_core opcode ok)

  gives_cast : (opcode : Opcode) → is_cast opcode ≡ true → Gives (labelled operation_shape (cast_core opcode limits)) IsOperationFormed
  gives_cast opcode ok = gives_labelled operation_shape (gives_cast_core opcode ok)

  gives_operation_core : (opcode : Opcode) → Gives (operation_core limits opcode) IsOperationFormed
  unfolding operation_core
  gives_operation_core op.ICmp = gives_labelled operation_shape gives_compare_core
  gives_operation_core op.Trunc = gives_cast op.Trunc refl
  gives_operation_core op.ZExt = gives_cast op.ZExt refl
  gives_operation_core op.SExt = gives_cast op.SExt refl
  gives_operation_core op.PtrToInt = gives_cast op.PtrToInt refl
  gives_operation_core op.IntToPtr = gives_cast op.IntToPtr refl
  gives_operation_core op.Select = gives_labelled operation_shape gives_select_core
  gives_operation_core op.Freeze = gives_labelled operation_shape gives_freeze_core
  gives_operation_core op.Phi = gives_labelled operation_shape gives_phi_core
  gives_operation_core op.Load = gives_labelled operation_shape gives_load_core
  gives_operation_core op.Store = gives_labelled operation_shape gives_store_core
  gives_operation_core op.Alloca = gives_labelled operation_shape gives_alloca_core
  gives_operation_core op.GetElementPtr = gives_labelled operation_shape gives_element_address_core
  gives_operation_core op.Call = gives_labelled operation_shape gives_call_core
  gives_operation_core op.ExtractValue = gives_labelled operation_shape gives_extract_core
  gives_operation_core op.InsertValue = gives_labelled operation_shape gives_insert_core
  gives_operation_core op.Ret = gives_fail operation_shape IsOperationFormed
  gives_operation_core op.Br = gives_fail operation_shape IsOperationFormed
  gives_operation_core op.Switch = gives_fail operation_shape IsOperationFormed
  gives_operation_core op.Unreachable = gives_fail operation_shape IsOperationFormed
  gives_operation_core op.Add = gives_binary op.Add refl
  gives_operation_core op.Sub = gives_binary op.Sub refl
  gives_operation_core op.Mul = gives_binary op.Mul refl
  gives_operation_core op.UDiv = gives_binary op.UDiv refl
  gives_operation_core op.SDiv = gives_binary op.SDiv refl
  gives_operation_core op.URem = gives_binary op.URem refl
  gives_operation_core op.SRem = gives_binary op.SRem refl
  gives_operation_core op.Shl = gives_binary op.Shl refl
  gives_operation_core op.LShr = gives_binary op.LShr refl
  gives_operation_core op.AShr = gives_binary op.AShr refl
  gives_operation_core op.And = gives_binary op.And refl
  gives_operation_core op.Or = gives_binary op.Or refl
  gives_operation_core op.Xor = gives_binary op.Xor refl

  gives_operation_over_core : (classes : List ℕ) → Gives (operation_over_core classes limits) IsOperationFormed
  unfolding operation_over_core
  gives_operation_over_core classes =
      gives_alt class
      (gives_second (word terminal.TailMark) (gives_second (word (terminal.Opcode op.Call)) (gives_labelled call_shape gives_call_core)))
      (gives_chain operation_shape IsOperationFormed (gives_any (one class classes opcode_of)) (λ opcode x. gives_labelled operation_shape (gives_operation_core opcode)))

  gives_operation_over : (classes : List ℕ) → Gives (operation_over classes limits) IsOperationFormed
  gives_operation_over classes = gives_labelled (operation_over_shape classes) (gives_operation_over_core classes)

  gives_instruction_core : Gives (instruction_core limits) IsInstructionFormed
  unfolding instruction_core
  gives_instruction_core =
      gives_alt class
      (gives_mapped _ IsInstructionFormed (gives_pair (gives_any (keep_first local_row (word terminal.Equals))) (gives_operation_over result_classes)) (λ v x. x.1))
      (gives_mapped _ IsInstructionFormed (gives_operation_over operation_classes) (λ o x. x))

  gives_instructions : Gives (instructions_row limits) (AllAre IsInstructionFormed)
  gives_instructions = gives_many class (gives_labelled instruction_shape gives_instruction_core)

  gives_return_value_core : Gives (return_value_core limits) IsEndingFormed
  unfolding return_value_core
  gives_return_value_core =
      gives_alt class (gives_mapped _ IsEndingFormed (gives_any (word terminal.Void)) (λ p x. tt))
      (gives_mapped _ IsEndingFormed (gives_pair (gives_any (value_type_row limits)) (gives_value limits)) (λ v x. x.1))

  gives_return_core : Gives (return_core limits) IsEndingFormed
  unfolding return_core
  gives_return_core = gives_second (word (terminal.Opcode op.Ret)) (gives_before attachments_row (gives_labelled type_shape gives_return_value_core))

  gives_branch_target_core : Gives (branch_target_core limits) IsEndingFormed
  unfolding branch_target_core
  gives_branch_target_core =
      gives_alt class (gives_mapped _ IsEndingFormed (gives_any target_row) (λ t x. tt))
      (gives_mapped _ IsEndingFormed (gives_pair (gives_typed_value limits) (gives_any (pair next_target_row next_target_row))) (λ v x. x.0))

  gives_branch_core : Gives (branch_core limits) IsEndingFormed
  unfolding branch_core
  gives_branch_core = gives_second (word (terminal.Opcode op.Br)) (gives_before attachments_row (gives_labelled branch_target_shape gives_branch_target_core))

  gives_case_core : Gives (case_core limits) IsCaseFormed
  unfolding case_core
  gives_case_core = gives_weaker IsCaseFormed (gives_pair (gives_typed_constant limits) (gives_any next_target_row)) (λ v x. x.0)

  gives_cases_core : Gives (cases_core limits) (AllAre IsCaseFormed)
  unfolding cases_core
  gives_cases_core = gives_second (word terminal.OpenBracket) (gives_before (word terminal.CloseBracket) (gives_many class (gives_labelled type_shape gives_case_core)))

  gives_switch_targets_core : Gives (switch_targets_core limits) (λ v. AllAre IsCaseFormed v.1)
  unfolding switch_targets_core
  gives_switch_targets_core =
      gives_weaker (λ v. AllAre IsCaseFormed v.1) (gives_pair (gives_any next_target_row) (gives_before attachments_row (gives_labelled cases_shape gives_cases_core))) (λ v x. x.1)

  gives_switch_core : Gives (switch_core limits) IsEndingFormed
  unfolding switch_core
  gives_switch_core =
      gives_second (word (terminal.Opcode op.Switch))
      (gives_mapped _ IsEndingFormed (gives_pair (gives_typed_value limits) (gives_labelled tail_shape gives_switch_targets_core)) (λ v x. (x.0, x.1)))

  gives_unreachable_core : Gives unreachable_core IsEndingFormed
  unfolding unreachable_core
  gives_unreachable_core = gives_mapped _ IsEndingFormed (gives_any (keep_first (word (terminal.Opcode op.Unreachable)) attachments_row)) (λ p x. tt)

  gives_ending_core : Gives (ending_core limits) IsEndingFormed
  unfolding ending_core
  gives_ending_core =
      gives_alt class (gives_labelled return_shape gives_return_core)
      (gives_alt class (gives_labelled branch_shape gives_branch_core)
      (gives_alt class (gives_labelled switch_shape gives_switch_core) (gives_labelled unreachable_shape gives_unreachable_core)))

  gives_block_core : Gives (block_core limits) IsBlockFormed
  unfolding block_core
  gives_block_core =
      gives_mapped _ IsBlockFormed
      (gives_pair (gives_any (optional class label_row)) (gives_pair gives_instructions (gives_labelled ending_shape gives_ending_core)))
      (λ v x. (x.1.0, x.1.1))

  gives_block : Gives (block_row limits) IsBlockFormed
  gives_block = gives_labelled block_shape gives_block_core

  -- the blocks of a definition, of which there is one
  pub gives_blocks : Gives (blocks_row limits) (λ bs. IsNotEmpty bs × AllAre IsBlockFormed bs)
  gives_blocks =
      gives_second (word terminal.OpenBrace)
      (gives_before (word terminal.CloseBrace)
      (gives_both (λ b bs. b ∷ bs) (λ bs. IsNotEmpty bs × AllAre IsBlockFormed bs) gives_block (gives_many class gives_block) (λ b bs x xs. (tt, (x, xs)))))
