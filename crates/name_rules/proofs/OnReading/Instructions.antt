-- The instructions and blocks of a text: widths, bytes, names, and how deep constants nest.
use Rattle.std.proofs.Common.{◌≡◌, ℕ, List, [], ◌∷◌, Bool, true, false, Option, Some, None, refl, sym, subst}
use Rattle.ir_lexer.specs.Ahead.{Located}
use Rattle.ir_tables.specs.declared.opcode.Opcode.{Opcode}
use Rattle.ir_tables.specs.declared.opcode.Opcode.TheVariants as op
use Rattle.ir_terminals.specs.PhraseRows.Row.{Row, among, one, keep_first, pair, labelled}
use Rattle.ir_terminals.specs.declared.limits.Limits.{Limits}
use Rattle.ir_terminals.specs.declared.terminal.Terminal.TheVariants as terminal
use Rattle.ir_terminals.specs.declared.values.Local.{Local}
use Rattle.ir_terminals.specs.declared.terminal.Terminal.{Terminal}
use Rattle.ir_terminals.specs.Role.{class, terminal as terminal_of}
use Rattle.ir_terminals.specs.Terminal.{code}
use Rattle.ir_terminals.specs.Values.{opcode_in, opcode_of, local_of, label_of}
use Rattle.ir_terminals.specs.Tokens.{word, local_row, label_row, predicate_row}
use Rattle.ir_phrases.specs.Constants.Tree.{TypeTree, TypedValueTree}
use Rattle.ir_phrases.specs.Constants.Flags.{flags_row}
use Rattle.ir_phrases.specs.Constants.Types.{type_shape, list_shape}
use Rattle.ir_phrases.specs.Constants.Values.{typed_value_row}
use Rattle.ir_phrases.specs.Constants.Forms.{AllAre}
use Rattle.ir_phrases.proofs.OnConstants.Gives.{IfThere, all_more}
use Rattle.ir_phrases.specs.Instructions.Tree.{SignatureTree, IncomingTree, OperationTree, Binary, Compare, Cast, Select, Freeze, Phi, Load, Store, Alloca, GetElementPtr, Call, ExtractValue, InsertValue, InstructionTree, CaseTree, EndingTree, ReturnVoid, Return, Jump, Branch, Switch, Unreachable, BlockTree}
use Rattle.ir_phrases.specs.Instructions.Dropped.{comma_shape, commas_shape, attachment_row, attachments_row, parameter_attributes_row, convention_row}
use Rattle.ir_phrases.specs.Instructions.Tails.{ListedParts, listed_step, listed_core, listed_row, alignment_row, alignment_behind_row, count_core}
use Rattle.ir_phrases.specs.Instructions.Calls.{signature_step, some_types_row, signature_types_row, signature_shape, signature_core, signature_row, argument_core, argument_list_core, arguments_shape, arguments_core, result_type_shape, result_type_core, call_end_row, called_shape, called_core, call_shape, call_core}
use Rattle.ir_phrases.specs.Instructions.Operations.{tail_shape, next_value_core, next_value_row, next_typed_value_core, next_typed_value_row, operands_shape, operands_core, operands_row, cast_type_shape, cast_type_core, cast_type_row, arms_core, arms_row, address_core, address_row, from_block_row, incoming_shape, incoming_core, incoming_row, operand_list_core, operand_list_row, indices_row, operation_shape, binary_core, compare_core, cast_core, select_core, freeze_core, phi_core, load_core, store_core, alloca_core, element_address_core, extract_core, insert_core, operation_core}
use Rattle.ir_phrases.specs.Instructions.Instructions.{result_classes, operation_classes, operation_over_shape, operation_over_core, operation_over, instruction_shape, instruction_core, instructions_row}
use Rattle.ir_phrases.specs.Instructions.Endings.{target_row, next_target_row, return_value_core, return_shape, return_core, branch_target_shape, branch_target_core, branch_shape, branch_core, case_core, cases_shape, cases_core, switch_targets_core, switch_shape, switch_core, unreachable_shape, unreachable_core, ending_shape, ending_core}
use Rattle.ir_phrases.specs.Instructions.Blocks.{block_shape, block_core, block_row, block_list_row, blocks_row}
use Rattle.name_rules.proofs.OnReading.Given.{Given, given_any, given_also, given_weaker, given_fail, given_nothing, given_one, given_mapped, given_chain, given_both, given_second, given_before, given_pair, given_alt, given_optional, given_many, given_separated, given_loop, given_labelled}
use Rattle.name_rules.proofs.OnReading.Spellings.{IsLocalWell, local_well, label_well}
use Rattle.name_rules.proofs.OnReading.Types.{HasWidths, given_type, given_value_type}
use Rattle.name_rules.proofs.OnReading.Constants.{IsTypedWell, IsValueWell, IsOperandWell, given_value, given_typed_value, given_typed_constant}

-- the parameters that a call writes
abbrev pub IsSignatureWell : Option SignatureTree → Type 0
IsSignatureWell (Some written) = AllAre HasWidths written.0
IsSignatureWell None = Unit {0}

-- a store
abbrev pub is_store : OperationTree → Bool
is_store (Store flags value address alignment) = true
is_store _ = false

-- a store has no name before it
abbrev pub MayBeNamed : Option Local → OperationTree → Type 0
MayBeNamed (Some written) operation = is_store operation ≡ false
MayBeNamed None operation = Unit {0}

module _ (limits : Limits) where
  abbrev pub IsCountWell : Option TypedValueTree → Type 0
  IsCountWell (Some count) = IsOperandWell limits count
  IsCountWell None = Unit {0}

  abbrev pub IsIncomingWell : IncomingTree → Type 0
  IsIncomingWell incoming = IsValueWell limits incoming.0

  abbrev pub IsOperationWell : OperationTree → Type 0
  IsOperationWell (Binary opcode flags left right) = IsOperandWell limits left × IsValueWell limits right
  IsOperationWell (Compare flags predicate left right) = IsOperandWell limits left × IsValueWell limits right
  IsOperationWell (Cast opcode flags value to) = IsOperandWell limits value × HasWidths to
  IsOperationWell (Select condition first second) = IsOperandWell limits condition × IsOperandWell limits first × IsOperandWell limits second
  IsOperationWell (Freeze value) = IsOperandWell limits value
  IsOperationWell (Phi ty incoming) = HasWidths ty × AllAre IsIncomingWell incoming
  IsOperationWell (Load flags ty address alignment) = HasWidths ty × IsOperandWell limits address
  IsOperationWell (Store flags value address alignment) = IsOperandWell limits value × IsOperandWell limits address
  IsOperationWell (Alloca ty count alignment) = HasWidths ty × IsCountWell count
  IsOperationWell (GetElementPtr flags source operands) = HasWidths source × AllAre (IsOperandWell limits) operands
  IsOperationWell (Call call) = HasWidths call.returns × IsSignatureWell call.signature × IsValueWell limits call.callee × AllAre (IsOperandWell limits) call.arguments
  IsOperationWell (ExtractValue value indices) = IsOperandWell limits value
  IsOperationWell (InsertValue value part indices) = IsOperandWell limits value × IsOperandWell limits part

  abbrev pub IsInstructionWell : InstructionTree → Type 0
  IsInstructionWell instruction = IfThere IsLocalWell instruction.result × IsOperationWell instruction.operation × MayBeNamed instruction.result instruction.operation

  abbrev pub IsCaseWell : CaseTree → Type 0
  IsCaseWell case = IsTypedWell limits.nesting case.0

  abbrev pub IsEndingWell : EndingTree → Type 0
  IsEndingWell ReturnVoid = Unit {0}
  IsEndingWell (Return value) = IsOperandWell limits value
  IsEndingWell (Jump target) = Unit {0}
  IsEndingWell (Branch condition then_to else_to) = IsOperandWell limits condition
  IsEndingWell (Switch value otherwise cases) = IsOperandWell limits value × AllAre IsCaseWell cases
  IsEndingWell Unreachable = Unit {0}

  abbrev pub IsBlockWell : BlockTree → Type 0
  IsBlockWell block = IfThere IsLocalWell block.label × AllAre IsInstructionWell block.instructions × IsEndingWell block.ending

abbrev is_store_opcode : Opcode → Bool
is_store_opcode op.Store = true
is_store_opcode _ = false

other : (o : Opcode) → among (code (terminal.Opcode o)) result_classes ≡ true → is_store_opcode o ≡ false
other op.Store e = absurd cc
other _ e = refl

other_opcode : (x : Terminal) (opcode : Opcode) → among (code x) result_classes ≡ true → opcode_in x ≡ Some opcode → is_store_opcode opcode ≡ false
other_opcode (terminal.Opcode o) opcode a e = subst (λ o. is_store_opcode o ≡ false) (once o opcode e) (other o a)
  where
    once : (a b : Opcode) → Some a ≡ Some b → a ≡ b
    once a b q = cc
other_opcode _ opcode a e = absurd cc

given_result_opcode : Given (one class result_classes opcode_of) (λ opcode. is_store_opcode opcode ≡ false)
given_result_opcode = record { value = λ us opcode q w. other_opcode (terminal_of w.0.token) opcode w.2 w.3 }

module _ {A : Type 0} (p : Row Located A) (P : A → Type 0) (h : Given p P) where
  listed_by : (parts : List A) (closed : Bool) → AllAre P parts → Given (listed_step p (parts, closed)) (λ s. AllAre P s.0)
  listed_by parts true x = given_second (word terminal.Comma) (given_mapped _ (λ s. AllAre P s.0) (given_any attachment_row) (λ u y. x))
  listed_by parts false x =
      given_second (word terminal.Comma)
      (given_alt class
      (given_mapped _ (λ s. AllAre P s.0) (given_any attachment_row) (λ u y. x))
      (given_mapped _ (λ s. AllAre P s.0) h (λ a y. all_more P parts a x y)))

  listed_given : (s : ListedParts A) → AllAre P s.0 → Given (listed_step p s) (λ m. AllAre P m.0)
  listed_given (parts, closed) x = listed_by parts closed x

  given_listed_core : (parts : List A) → AllAre P parts → Given (listed_core p parts) (AllAre P)
  unfolding listed_core
  given_listed_core parts x = given_mapped _ (AllAre P) (given_loop class comma_shape (λ s. AllAre P s.0) listed_given (parts, false) x) (λ s y. y)

  -- behind a first one
  given_behind_first : (a : A) → P a → Given (listed_row p (a ∷ [])) (AllAre P)
  given_behind_first a x = given_labelled commas_shape (given_listed_core (a ∷ []) (x, tt))

module _ (limits : Limits) where
  signature_by : (parts : List TypeTree) (closed : Bool) → AllAre HasWidths parts → Given (signature_step limits (parts, closed)) (λ s. AllAre HasWidths s.0)
  signature_by parts true x = given_fail comma_shape (λ s. AllAre HasWidths s.0)
  signature_by parts false x =
      given_second (word terminal.Comma)
      (given_alt class
      (given_mapped _ (λ s. AllAre HasWidths s.0) (given_any (word terminal.Dots)) (λ u y. x))
      (given_mapped _ (λ s. AllAre HasWidths s.0) (given_type limits) (λ t y. all_more HasWidths parts t x y)))

  signature_given : (s : SignatureTree) → AllAre HasWidths s.0 → Given (signature_step limits s) (λ m. AllAre HasWidths m.0)
  signature_given (parts, closed) x = signature_by parts closed x

  given_some_types : Given (some_types_row limits) (λ s. AllAre HasWidths s.0)
  given_some_types =
      given_chain commas_shape (λ s. AllAre HasWidths s.0) (given_type limits)
      (λ t x. given_loop class comma_shape (λ s. AllAre HasWidths s.0) signature_given (t ∷ [], false) (x, tt))

  given_signature_types : Given (signature_types_row limits) (λ s. AllAre HasWidths s.0)
  given_signature_types =
      given_alt class (given_mapped _ (λ s. AllAre HasWidths s.0) (given_any (word terminal.Dots)) (λ p x. tt))
      (given_alt class given_some_types (given_nothing ([], false) (λ s. AllAre HasWidths s.0) tt))

  given_signature_core : Given (signature_core limits) IsSignatureWell
  unfolding signature_core
  given_signature_core =
      given_weaker IsSignatureWell
      (given_optional class (given_second (word terminal.OpenParenthesis) (given_before (word terminal.CloseParenthesis) given_signature_types))) there
    where
      there : (o : Option SignatureTree) → IfThere (λ s. AllAre HasWidths s.0) o → IsSignatureWell o
      there (Some s) x = x
      there None x = tt

  -- the parameters that a call or an alias writes
  pub given_signature : Given (signature_row limits) IsSignatureWell
  given_signature = given_labelled signature_shape given_signature_core

  given_next_value_core : Given (next_value_core limits) (IsValueWell limits)
  unfolding next_value_core
  given_next_value_core = given_second (word terminal.Comma) (given_value limits)

  given_next_value : Given (next_value_row limits) (IsValueWell limits)
  given_next_value = given_labelled comma_shape given_next_value_core

  given_next_core : Given (next_typed_value_core limits) (IsOperandWell limits)
  unfolding next_typed_value_core
  given_next_core = given_second (word terminal.Comma) (given_typed_value limits)

  given_next : Given (next_typed_value_row limits) (IsOperandWell limits)
  given_next = given_labelled comma_shape given_next_core

  given_operands_core : Given (operands_core limits) (λ v. IsOperandWell limits v.0 × IsValueWell limits v.1)
  unfolding operands_core
  given_operands_core = given_pair (given_typed_value limits) (given_before attachments_row given_next_value)

  given_operands : Given (operands_row limits) (λ v. IsOperandWell limits v.0 × IsValueWell limits v.1)
  given_operands = given_labelled operands_shape given_operands_core

  given_cast_type_core : Given (cast_type_core limits) HasWidths
  unfolding cast_type_core
  given_cast_type_core = given_second (word terminal.To) (given_before attachments_row (given_type limits))

  given_cast_type : Given (cast_type_row limits) HasWidths
  given_cast_type = given_labelled cast_type_shape given_cast_type_core

  given_arms_core : Given (arms_core limits) (λ v. IsOperandWell limits v.0 × IsOperandWell limits v.1)
  unfolding arms_core
  given_arms_core = given_pair given_next (given_before attachments_row given_next)

  given_arms : Given (arms_row limits) (λ v. IsOperandWell limits v.0 × IsOperandWell limits v.1)
  given_arms = given_labelled tail_shape given_arms_core

  given_address_core : Given (address_core limits) (λ v. IsOperandWell limits v.0)
  unfolding address_core
  given_address_core = given_weaker (λ v. IsOperandWell limits v.0) (given_pair given_next (given_any alignment_row)) (λ v x. x.0)

  given_address : Given (address_row limits) (λ v. IsOperandWell limits v.0)
  given_address = given_labelled tail_shape given_address_core

  given_incoming_core : Given (incoming_core limits) (IsIncomingWell limits)
  unfolding incoming_core
  given_incoming_core = given_second (word terminal.OpenBracket) (given_weaker (IsIncomingWell limits) (given_pair (given_value limits) (given_any from_block_row)) (λ v x. x.0))

  given_incoming : Given (incoming_row limits) (IsIncomingWell limits)
  given_incoming = given_labelled incoming_shape given_incoming_core

  given_operand_list_core : Given (operand_list_core limits) (AllAre (IsOperandWell limits))
  unfolding operand_list_core
  given_operand_list_core =
      given_chain commas_shape (AllAre (IsOperandWell limits)) given_next (λ t x. given_behind_first (typed_value_row limits) (IsOperandWell limits) (given_typed_value limits) t x)

  given_operand_list : Given (operand_list_row limits) (AllAre (IsOperandWell limits))
  given_operand_list = given_labelled tail_shape given_operand_list_core

  given_count_core : Given (count_core limits) (λ v. IsCountWell limits v.0)
  unfolding count_core
  given_count_core =
      given_alt class
      (given_second (word terminal.Comma)
      (given_alt class
      (given_weaker (λ v. IsCountWell limits v.0) (given_pair (given_mapped Some (IsCountWell limits) (given_typed_value limits) (λ a x. x)) (given_any alignment_row)) (λ v x. x.0))
      (given_mapped _ (λ v. IsCountWell limits v.0) (given_any alignment_behind_row) (λ a x. tt))))
      (given_nothing (None, None) (λ v. IsCountWell limits v.0) tt)

  given_argument_core : Given (argument_core limits) (IsOperandWell limits)
  unfolding argument_core
  given_argument_core = given_pair (given_type limits) (given_second parameter_attributes_row (given_value limits))

  given_argument_list_core : Given (argument_list_core limits) (AllAre (IsOperandWell limits))
  unfolding argument_list_core
  given_argument_list_core = given_separated class (word terminal.Comma) (given_labelled type_shape given_argument_core)

  given_arguments_core : Given (arguments_core limits) (AllAre (IsOperandWell limits))
  unfolding arguments_core
  given_arguments_core =
      given_second (word terminal.OpenParenthesis) (given_before (word terminal.CloseParenthesis) (given_labelled list_shape given_argument_list_core))

  given_called_core : Given (called_core limits) (λ v. IsValueWell limits v.0 × AllAre (IsOperandWell limits) v.1)
  unfolding called_core
  given_called_core = given_pair (given_value limits) (given_before call_end_row (given_labelled arguments_shape given_arguments_core))

  given_result_type_core : Given (result_type_core limits) HasWidths
  unfolding result_type_core
  given_result_type_core = given_second convention_row (given_second parameter_attributes_row (given_type limits))

  given_call_core : Given (call_core limits) (IsOperationWell limits)
  unfolding call_core
  given_call_core =
      given_mapped _ (IsOperationWell limits)
      (given_pair (given_labelled result_type_shape given_result_type_core) (given_pair given_signature (given_labelled called_shape given_called_core)))
      (λ v x. (x.0, x.1.0, x.1.1.0, x.1.1.1))

  given_binary_core : (opcode : Opcode) → Given (binary_core opcode limits) (IsOperationWell limits)
  unfolding binary_core
  given_binary_core opcode = given_mapped _ (IsOperationWell limits) (given_pair (given_any (flags_row opcode)) given_operands) (λ v x. (x.1.0, x.1.1))

  given_compare_core : Given (compare_core limits) (IsOperationWell limits)
  unfolding compare_core
  given_compare_core =
      given_mapped _ (IsOperationWell limits) (given_pair (given_any (flags_row op.ICmp)) (given_pair (given_any predicate_row) given_operands)) (λ v x. (x.1.1.0, x.1.1.1))

  given_cast_core : (opcode : Opcode) → Given (cast_core opcode limits) (IsOperationWell limits)
  unfolding cast_core
  given_cast_core opcode =
      given_mapped _ (IsOperationWell limits) (given_pair (given_any (flags_row opcode)) (given_pair (given_typed_value limits) given_cast_type)) (λ v x. (x.1.0, x.1.1))

  given_select_core : Given (select_core limits) (IsOperationWell limits)
  unfolding select_core
  given_select_core = given_mapped _ (IsOperationWell limits) (given_pair (given_typed_value limits) given_arms) (λ v x. (x.0, x.1.0, x.1.1))

  given_freeze_core : Given (freeze_core limits) (IsOperationWell limits)
  unfolding freeze_core
  given_freeze_core = given_mapped _ (IsOperationWell limits) (given_before attachments_row (given_typed_value limits)) (λ v x. x)

  given_phi_core : Given (phi_core limits) (IsOperationWell limits)
  unfolding phi_core
  given_phi_core =
      given_mapped _ (IsOperationWell limits)
      (given_pair (given_type limits)
      (given_chain commas_shape (AllAre (IsIncomingWell limits)) given_incoming (λ i x. given_behind_first (incoming_row limits) (IsIncomingWell limits) given_incoming i x)))
      (λ v x. (x.0, x.1))

  given_load_core : Given (load_core limits) (IsOperationWell limits)
  unfolding load_core
  given_load_core = given_mapped _ (IsOperationWell limits) (given_pair (given_any (flags_row op.Load)) (given_pair (given_type limits) given_address)) (λ v x. (x.1.0, x.1.1))

  given_store_core : Given (store_core limits) (IsOperationWell limits)
  unfolding store_core
  given_store_core = given_mapped _ (IsOperationWell limits) (given_pair (given_any (flags_row op.Store)) (given_pair (given_typed_value limits) given_address)) (λ v x. (x.1.0, x.1.1))

  given_alloca_core : Given (alloca_core limits) (IsOperationWell limits)
  unfolding alloca_core
  given_alloca_core = given_mapped _ (IsOperationWell limits) (given_pair (given_type limits) (given_labelled commas_shape given_count_core)) (λ v x. (x.0, x.1))

  given_element_address_core : Given (element_address_core limits) (IsOperationWell limits)
  unfolding element_address_core
  given_element_address_core =
      given_mapped _ (IsOperationWell limits) (given_pair (given_any (flags_row op.GetElementPtr)) (given_pair (given_type limits) given_operand_list)) (λ v x. (x.1.0, x.1.1))

  given_extract_core : Given (extract_core limits) (IsOperationWell limits)
  unfolding extract_core
  given_extract_core = given_mapped _ (IsOperationWell limits) (given_pair (given_typed_value limits) (given_any indices_row)) (λ v x. x.0)

  given_insert_core : Given (insert_core limits) (IsOperationWell limits)
  unfolding insert_core
  given_insert_core = given_mapped _ (IsOperationWell limits) (given_pair (given_typed_value limits) (given_pair given_next (given_any indices_row))) (λ v x. (x.0, x.1.0))

  given_binary : (opcode : Opcode) → Given (labelled operation_shape (binary_core opcode limits)) (IsOperationWell limits)
  given_binary opcode = given_labelled operation_shape (given_binary_core opcode)

  given_cast : (opcode : Opcode) → Given (labelled operation_shape (cast_core opcode limits)) (IsOperationWell limits)
  given_cast opcode = given_labelled operation_shape (given_cast_core opcode)

  given_operation_core : (opcode : Opcode) → Given (operation_core limits opcode) (IsOperationWell limits)
  unfolding operation_core
  given_operation_core op.ICmp = given_labelled operation_shape given_compare_core
  given_operation_core op.Trunc = given_cast op.Trunc
  given_operation_core op.ZExt = given_cast op.ZExt
  given_operation_core op.SExt = given_cast op.SExt
  given_operation_core op.PtrToInt = given_cast op.PtrToInt
  given_operation_core op.IntToPtr = given_cast op.IntToPtr
  given_operation_core op.Select = given_labelled operation_shape given_select_core
  given_operation_core op.Freeze = given_labelled operation_shape given_freeze_core
  given_operation_core op.Phi = given_labelled operation_shape given_phi_core
  given_operation_core op.Load = given_labelled operation_shape given_load_core
  given_operation_core op.Store = given_labelled operation_shape given_store_core
  given_operation_core op.Alloca = given_labelled operation_shape given_alloca_core
  given_operation_core op.GetElementPtr = given_labelled operation_shape given_element_address_core
  given_operation_core op.Call = given_labelled operation_shape given_call_core
  given_operation_core op.ExtractValue = given_labelled operation_shape given_extract_core
  given_operation_core op.InsertValue = given_labelled operation_shape given_insert_core
  given_operation_core op.Ret = given_fail operation_shape (IsOperationWell limits)
  given_operation_core op.Br = given_fail operation_shape (IsOperationWell limits)
  given_operation_core op.Switch = given_fail operation_shape (IsOperationWell limits)
  given_operation_core op.Unreachable = given_fail operation_shape (IsOperationWell limits)
  given_operation_core op.Add = given_binary op.Add
  given_operation_core op.Sub = given_binary op.Sub
  given_operation_core op.Mul = given_binary op.Mul
  given_operation_core op.UDiv = given_binary op.UDiv
  given_operation_core op.SDiv = given_binary op.SDiv
  given_operation_core op.URem = given_binary op.URem
  given_operation_core op.SRem = given_binary op.SRem
  given_operation_core op.Shl = given_binary op.Shl
  given_operation_core op.LShr = given_binary op.LShr
  given_operation_core op.AShr = given_binary op.AShr
  given_operation_core op.And = given_binary op.And
  given_operation_core op.Or = given_binary op.Or
  given_operation_core op.Xor = given_binary op.Xor

  given_operation_over_core : (classes : List ℕ) → Given (operation_over_core classes limits) (IsOperationWell limits)
  unfolding operation_over_core
  given_operation_over_core classes =
      given_alt class
      (given_second (word terminal.TailMark) (given_second (word (terminal.Opcode op.Call)) (given_labelled call_shape given_call_core)))
      (given_chain operation_shape (IsOperationWell limits) (given_any (one class classes opcode_of)) (λ opcode x. given_labelled operation_shape (given_operation_core opcode)))

  given_operation_over : (classes : List ℕ) → Given (operation_over classes limits) (IsOperationWell limits)
  given_operation_over classes = given_labelled (operation_over_shape classes) (given_operation_over_core classes)

  abbrev NoStore : OperationTree → Type 0
  NoStore o = is_store o ≡ false

  other_core : (opcode : Opcode) → is_store_opcode opcode ≡ false → Given (operation_core limits opcode) NoStore
  unfolding operation_core binary_core compare_core cast_core select_core freeze_core phi_core load_core store_core alloca_core element_address_core call_core extract_core insert_core
  other_core op.Store e = absurd cc
  other_core op.Ret e = given_fail operation_shape NoStore
  other_core op.Br e = given_fail operation_shape NoStore
  other_core op.Switch e = given_fail operation_shape NoStore
  other_core op.Unreachable e = given_fail operation_shape NoStore
  other_core _ e = record { value = λ us a q w. subst NoStore (sym w.2) refl }

  no_store_call : Given (call_core limits) NoStore
  unfolding call_core
  no_store_call = record { value = λ us a q w. subst NoStore (sym w.2) refl }

  -- what has a name before it is no store
  given_no_store_core : Given (operation_over_core result_classes limits) NoStore
  unfolding operation_over_core
  given_no_store_core =
      given_alt class
      (given_second (word terminal.TailMark) (given_second (word (terminal.Opcode op.Call)) (given_labelled call_shape no_store_call)))
      (given_chain operation_shape NoStore given_result_opcode
      (λ opcode x. given_labelled operation_shape (other_core opcode x)))

  given_no_store : Given (operation_over result_classes limits) NoStore
  given_no_store = given_labelled (operation_over_shape result_classes) given_no_store_core

  pub given_local : Given local_row IsLocalWell
  given_local = given_one class (code terminal.Local ∷ []) local_of IsLocalWell local_well

  given_instruction_core : Given (instruction_core limits) (IsInstructionWell limits)
  unfolding instruction_core
  given_instruction_core =
      given_alt class
      (given_mapped _ (IsInstructionWell limits) (given_pair (given_before (word terminal.Equals) given_local) (given_also (given_operation_over result_classes) given_no_store)) (λ v x. (x.0, x.1.0, x.1.1)))
      (given_mapped _ (IsInstructionWell limits) (given_operation_over operation_classes) (λ o x. (tt, x, tt)))

  given_instructions : Given (instructions_row limits) (AllAre (IsInstructionWell limits))
  given_instructions = given_many class (given_labelled instruction_shape given_instruction_core)

  given_return_value_core : Given (return_value_core limits) (IsEndingWell limits)
  unfolding return_value_core
  given_return_value_core =
      given_alt class (given_mapped _ (IsEndingWell limits) (given_any (word terminal.Void)) (λ p x. tt))
      (given_mapped _ (IsEndingWell limits) (given_pair (given_value_type limits) (given_value limits)) (λ v x. (x.0, x.1)))

  given_return_core : Given (return_core limits) (IsEndingWell limits)
  unfolding return_core
  given_return_core = given_second (word (terminal.Opcode op.Ret)) (given_before attachments_row (given_labelled type_shape given_return_value_core))

  given_branch_target_core : Given (branch_target_core limits) (IsEndingWell limits)
  unfolding branch_target_core
  given_branch_target_core =
      given_alt class (given_mapped _ (IsEndingWell limits) (given_any target_row) (λ t x. tt))
      (given_mapped _ (IsEndingWell limits) (given_pair (given_typed_value limits) (given_any (pair next_target_row next_target_row))) (λ v x. x.0))

  given_branch_core : Given (branch_core limits) (IsEndingWell limits)
  unfolding branch_core
  given_branch_core = given_second (word (terminal.Opcode op.Br)) (given_before attachments_row (given_labelled branch_target_shape given_branch_target_core))

  given_case_core : Given (case_core limits) (IsCaseWell limits)
  unfolding case_core
  given_case_core = given_weaker (IsCaseWell limits) (given_pair (given_typed_constant limits) (given_any next_target_row)) (λ v x. x.0)

  given_cases_core : Given (cases_core limits) (AllAre (IsCaseWell limits))
  unfolding cases_core
  given_cases_core = given_second (word terminal.OpenBracket) (given_before (word terminal.CloseBracket) (given_many class (given_labelled type_shape given_case_core)))

  given_switch_targets_core : Given (switch_targets_core limits) (λ v. AllAre (IsCaseWell limits) v.1)
  unfolding switch_targets_core
  given_switch_targets_core =
      given_weaker (λ v. AllAre (IsCaseWell limits) v.1) (given_pair (given_any next_target_row) (given_before attachments_row (given_labelled cases_shape given_cases_core))) (λ v x. x.1)

  given_switch_core : Given (switch_core limits) (IsEndingWell limits)
  unfolding switch_core
  given_switch_core =
      given_second (word (terminal.Opcode op.Switch))
      (given_mapped _ (IsEndingWell limits) (given_pair (given_typed_value limits) (given_labelled tail_shape given_switch_targets_core)) (λ v x. (x.0, x.1)))

  given_unreachable_core : Given unreachable_core (IsEndingWell limits)
  unfolding unreachable_core
  given_unreachable_core = given_mapped _ (IsEndingWell limits) (given_any (keep_first (word (terminal.Opcode op.Unreachable)) attachments_row)) (λ p x. tt)

  given_ending_core : Given (ending_core limits) (IsEndingWell limits)
  unfolding ending_core
  given_ending_core =
      given_alt class (given_labelled return_shape given_return_core)
      (given_alt class (given_labelled branch_shape given_branch_core)
      (given_alt class (given_labelled switch_shape given_switch_core) (given_labelled unreachable_shape given_unreachable_core)))

  given_label : Given label_row IsLocalWell
  given_label = given_one class (code terminal.Label ∷ []) label_of IsLocalWell label_well

  given_block_core : Given (block_core limits) (IsBlockWell limits)
  unfolding block_core
  given_block_core =
      given_mapped _ (IsBlockWell limits)
      (given_pair (given_optional class given_label) (given_pair given_instructions (given_labelled ending_shape given_ending_core)))
      (λ v x. (x.0, x.1.0, x.1.1))

  given_block : Given (block_row limits) (IsBlockWell limits)
  given_block = given_labelled block_shape given_block_core

  given_block_list : Given (block_list_row limits) (AllAre (IsBlockWell limits))
  given_block_list = given_both (λ b bs. b ∷ bs) (AllAre (IsBlockWell limits)) given_block (given_many class given_block) (λ b bs x xs. (x, xs))

  pub given_blocks : Given (blocks_row limits) (AllAre (IsBlockWell limits))
  given_blocks = given_second (word terminal.OpenBrace) (given_before (word terminal.CloseBrace) given_block_list)
