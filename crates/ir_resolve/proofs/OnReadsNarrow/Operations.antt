-- The integer types in the operations of a text have 1 to 128 bits.
use Rattle.std.proofs.Common.{ℕ, List, [], ◌∷◌, Bool, true, false, Some, None}
use Rattle.ir_lexer.specs.Ahead.{Located}
use Rattle.ir_tables.specs.declared.opcode.Opcode.{Opcode}
use Rattle.ir_tables.specs.declared.opcode.Opcode.TheVariants as op
use Rattle.ir_terminals.specs.PhraseRows.Row.{Row, one, labelled}
use Rattle.ir_terminals.specs.declared.limits.Limits.{Limits}
use Rattle.ir_terminals.specs.declared.terminal.Terminal.TheVariants as terminal
use Rattle.ir_terminals.specs.Role.{class}
use Rattle.ir_terminals.specs.Values.{opcode_of}
use Rattle.ir_terminals.specs.Tokens.{word, predicate_row}
use Rattle.ir_phrases.specs.Constants.Flags.{flags_row}
use Rattle.ir_phrases.specs.Constants.Values.{typed_value_row}
use Rattle.ir_phrases.specs.Constants.Forms.{AllAre}
use Rattle.ir_phrases.proofs.OnConstants.Gives.{Gives, gives_any, gives_weaker, gives_fail, gives_nothing, gives_mapped, gives_chain, gives_second, gives_before, gives_pair, gives_alt, gives_loop, gives_labelled, all_more}
use Rattle.ir_phrases.specs.Instructions.Dropped.{comma_shape, commas_shape, attachment_row, attachments_row}
use Rattle.ir_phrases.specs.Instructions.Tails.{ListedParts, listed_step, listed_core, listed_row, alignment_row, alignment_behind_row, count_core}
use Rattle.ir_phrases.specs.Instructions.Calls.{call_shape}
use Rattle.ir_phrases.specs.Instructions.Operations.{tail_shape, next_value_core, next_value_row, next_typed_value_core, next_typed_value_row, operands_shape, operands_core, operands_row, cast_type_shape, cast_type_core, cast_type_row, arms_core, arms_row, address_core, address_row, from_block_row, incoming_shape, incoming_core, incoming_row, operand_list_core, operand_list_row, indices_row, operation_shape, binary_core, compare_core, cast_core, select_core, freeze_core, phi_core, load_core, store_core, alloca_core, element_address_core, extract_core, insert_core, operation_core}
use Rattle.ir_phrases.specs.Instructions.Instructions.{operation_over_shape, operation_over_core, operation_over}
use Rattle.item_build.specs.Buildable.Narrow.{IsNarrow, IsNarrowValue, IsNarrowOperand, IsNarrowCount, IsNarrowIncoming, IsNarrowOperation}
use Rattle.ir_resolve.proofs.OnReadsNarrow.Lists.{all_of}
use Rattle.ir_resolve.proofs.OnReadsNarrow.Types.{gives_type}
use Rattle.ir_resolve.proofs.OnReadsNarrow.Constants.{gives_value, gives_typed_value}
use Rattle.ir_resolve.proofs.OnReadsNarrow.Calls.{gives_call_core}

module _ {A : Type 0} (p : Row Located A) (P : A → Type 0) (h : Gives p P) where
  listed_by : (parts : List A) (closed : Bool) → AllAre P parts → Gives (listed_step p (parts, closed)) (λ s. AllAre P s.0)
  listed_by parts true x = gives_second (word terminal.Comma) (gives_mapped _ (λ s. AllAre P s.0) (gives_any attachment_row) (λ u y. x))
  listed_by parts false x =
      gives_second (word terminal.Comma)
      (gives_alt class
      (gives_mapped _ (λ s. AllAre P s.0) (gives_any attachment_row) (λ u y. x))
      (gives_mapped _ (λ s. AllAre P s.0) h (λ a y. all_more P parts a x y)))

  listed_given : (s : ListedParts A) → AllAre P s.0 → Gives (listed_step p s) (λ m. AllAre P m.0)
  listed_given (parts, closed) x = listed_by parts closed x

  gives_listed_core : (parts : List A) → AllAre P parts → Gives (listed_core p parts) (AllAre P)
  unfolding listed_core
  gives_listed_core parts x = gives_mapped _ (AllAre P) (gives_loop class comma_shape (λ s. AllAre P s.0) listed_given (parts, false) x) (λ s y. y)

  -- behind a first one
  gives_behind_first : (a : A) → P a → Gives (listed_row p (a ∷ [])) (AllAre P)
  gives_behind_first a x = gives_labelled commas_shape (gives_listed_core (a ∷ []) (x, tt))

module _ (limits : Limits) where
  gives_next_value_core : Gives (next_value_core limits) IsNarrowValue
  unfolding next_value_core
  gives_next_value_core = gives_second (word terminal.Comma) (gives_value limits)

  gives_next_value : Gives (next_value_row limits) IsNarrowValue
  gives_next_value = gives_labelled comma_shape gives_next_value_core

  gives_next_core : Gives (next_typed_value_core limits) IsNarrowOperand
  unfolding next_typed_value_core
  gives_next_core = gives_second (word terminal.Comma) (gives_typed_value limits)

  gives_next : Gives (next_typed_value_row limits) IsNarrowOperand
  gives_next = gives_labelled comma_shape gives_next_core

  gives_operands_core : Gives (operands_core limits) (λ v. IsNarrowOperand v.0 × IsNarrowValue v.1)
  unfolding operands_core
  gives_operands_core = gives_pair (gives_typed_value limits) (gives_before attachments_row gives_next_value)

  gives_operands : Gives (operands_row limits) (λ v. IsNarrowOperand v.0 × IsNarrowValue v.1)
  gives_operands = gives_labelled operands_shape gives_operands_core

  gives_cast_type_core : Gives (cast_type_core limits) IsNarrow
  unfolding cast_type_core
  gives_cast_type_core = gives_second (word terminal.To) (gives_before attachments_row (gives_type limits))

  gives_cast_type : Gives (cast_type_row limits) IsNarrow
  gives_cast_type = gives_labelled cast_type_shape gives_cast_type_core

  gives_arms_core : Gives (arms_core limits) (λ v. IsNarrowOperand v.0 × IsNarrowOperand v.1)
  unfolding arms_core
  gives_arms_core = gives_pair gives_next (gives_before attachments_row gives_next)

  gives_arms : Gives (arms_row limits) (λ v. IsNarrowOperand v.0 × IsNarrowOperand v.1)
  gives_arms = gives_labelled tail_shape gives_arms_core

  gives_address_core : Gives (address_core limits) (λ v. IsNarrowOperand v.0)
  unfolding address_core
  gives_address_core = gives_weaker (λ v. IsNarrowOperand v.0) (gives_pair gives_next (gives_any alignment_row)) (λ v x. x.0)

  gives_address : Gives (address_row limits) (λ v. IsNarrowOperand v.0)
  gives_address = gives_labelled tail_shape gives_address_core

  gives_incoming_core : Gives (incoming_core limits) IsNarrowIncoming
  unfolding incoming_core
  gives_incoming_core = gives_second (word terminal.OpenBracket) (gives_weaker IsNarrowIncoming (gives_pair (gives_value limits) (gives_any from_block_row)) (λ v x. x.0))

  gives_incoming : Gives (incoming_row limits) IsNarrowIncoming
  gives_incoming = gives_labelled incoming_shape gives_incoming_core

  gives_operand_list_core : Gives (operand_list_core limits) (AllAre IsNarrowOperand)
  unfolding operand_list_core
  gives_operand_list_core =
      gives_chain commas_shape (AllAre IsNarrowOperand) gives_next (λ t x. gives_behind_first (typed_value_row limits) IsNarrowOperand (gives_typed_value limits) t x)

  gives_operand_list : Gives (operand_list_row limits) (AllAre IsNarrowOperand)
  gives_operand_list = gives_labelled tail_shape gives_operand_list_core

  gives_count_core : Gives (count_core limits) (λ v. IsNarrowCount v.0)
  unfolding count_core
  gives_count_core =
      gives_alt class
      (gives_second (word terminal.Comma)
      (gives_alt class
      (gives_weaker (λ v. IsNarrowCount v.0) (gives_pair (gives_mapped Some IsNarrowCount (gives_typed_value limits) (λ a x. x)) (gives_any alignment_row)) (λ v x. x.0))
      (gives_mapped _ (λ v. IsNarrowCount v.0) (gives_any alignment_behind_row) (λ a x. tt))))
      (gives_nothing (None, None) (λ v. IsNarrowCount v.0) tt)

  gives_binary_core : (opcode : Opcode) → Gives (binary_core opcode limits) IsNarrowOperation
  unfolding binary_core
  gives_binary_core opcode = gives_mapped _ IsNarrowOperation (gives_pair (gives_any (flags_row opcode)) gives_operands) (λ v x. (x.1.0, x.1.1))

  gives_compare_core : Gives (compare_core limits) IsNarrowOperation
  unfolding compare_core
  gives_compare_core =
      gives_mapped _ IsNarrowOperation (gives_pair (gives_any (flags_row op.ICmp)) (gives_pair (gives_any predicate_row) gives_operands)) (λ v x. (x.1.1.0, x.1.1.1))

  gives_cast_core : (opcode : Opcode) → Gives (cast_core opcode limits) IsNarrowOperation
  unfolding cast_core
  gives_cast_core opcode =
      gives_mapped _ IsNarrowOperation (gives_pair (gives_any (flags_row opcode)) (gives_pair (gives_typed_value limits) gives_cast_type)) (λ v x. (x.1.0, x.1.1))

  gives_select_core : Gives (select_core limits) IsNarrowOperation
  unfolding select_core
  gives_select_core = gives_mapped _ IsNarrowOperation (gives_pair (gives_typed_value limits) gives_arms) (λ v x. (x.0, x.1.0, x.1.1))

  gives_freeze_core : Gives (freeze_core limits) IsNarrowOperation
  unfolding freeze_core
  gives_freeze_core = gives_mapped _ IsNarrowOperation (gives_before attachments_row (gives_typed_value limits)) (λ v x. x)

  gives_phi_core : Gives (phi_core limits) IsNarrowOperation
  unfolding phi_core
  gives_phi_core =
      gives_mapped _ IsNarrowOperation
      (gives_pair (gives_type limits)
      (gives_chain commas_shape (AllAre IsNarrowIncoming) gives_incoming (λ i x. gives_behind_first (incoming_row limits) IsNarrowIncoming gives_incoming i x)))
      (λ v x. (x.0, all_of IsNarrowIncoming v.1 x.1))

  gives_load_core : Gives (load_core limits) IsNarrowOperation
  unfolding load_core
  gives_load_core = gives_mapped _ IsNarrowOperation (gives_pair (gives_any (flags_row op.Load)) (gives_pair (gives_type limits) gives_address)) (λ v x. (x.1.0, x.1.1))

  gives_store_core : Gives (store_core limits) IsNarrowOperation
  unfolding store_core
  gives_store_core = gives_mapped _ IsNarrowOperation (gives_pair (gives_any (flags_row op.Store)) (gives_pair (gives_typed_value limits) gives_address)) (λ v x. (x.1.0, x.1.1))

  gives_alloca_core : Gives (alloca_core limits) IsNarrowOperation
  unfolding alloca_core
  gives_alloca_core = gives_mapped _ IsNarrowOperation (gives_pair (gives_type limits) (gives_labelled commas_shape gives_count_core)) (λ v x. (x.0, x.1))

  gives_element_address_core : Gives (element_address_core limits) IsNarrowOperation
  unfolding element_address_core
  gives_element_address_core =
      gives_mapped _ IsNarrowOperation (gives_pair (gives_any (flags_row op.GetElementPtr)) (gives_pair (gives_type limits) gives_operand_list)) (λ v x. (x.1.0, all_of IsNarrowOperand v.1.1 x.1.1))

  gives_extract_core : Gives (extract_core limits) IsNarrowOperation
  unfolding extract_core
  gives_extract_core = gives_mapped _ IsNarrowOperation (gives_pair (gives_typed_value limits) (gives_any indices_row)) (λ v x. x.0)

  gives_insert_core : Gives (insert_core limits) IsNarrowOperation
  unfolding insert_core
  gives_insert_core = gives_mapped _ IsNarrowOperation (gives_pair (gives_typed_value limits) (gives_pair gives_next (gives_any indices_row))) (λ v x. (x.0, x.1.0))

  gives_binary : (opcode : Opcode) → Gives (labelled operation_shape (binary_core opcode limits)) IsNarrowOperation
  gives_binary opcode = gives_labelled operation_shape (gives_binary_core opcode)

  gives_cast : (opcode : Opcode) → Gives (labelled operation_shape (cast_core opcode limits)) IsNarrowOperation
  gives_cast opcode = gives_labelled operation_shape (gives_cast_core opcode)

  gives_operation_core : (opcode : Opcode) → Gives (operation_core limits opcode) IsNarrowOperation
  unfolding operation_core
  gives_operation_core op.ICmp = gives_labelled operation_shape gives_compare_core
  gives_operation_core op.Trunc = gives_cast op.Trunc
  gives_operation_core op.ZExt = gives_cast op.ZExt
  gives_operation_core op.SExt = gives_cast op.SExt
  gives_operation_core op.PtrToInt = gives_cast op.PtrToInt
  gives_operation_core op.IntToPtr = gives_cast op.IntToPtr
  gives_operation_core op.Select = gives_labelled operation_shape gives_select_core
  gives_operation_core op.Freeze = gives_labelled operation_shape gives_freeze_core
  gives_operation_core op.Phi = gives_labelled operation_shape gives_phi_core
  gives_operation_core op.Load = gives_labelled operation_shape gives_load_core
  gives_operation_core op.Store = gives_labelled operation_shape gives_store_core
  gives_operation_core op.Alloca = gives_labelled operation_shape gives_alloca_core
  gives_operation_core op.GetElementPtr = gives_labelled operation_shape gives_element_address_core
  gives_operation_core op.Call = gives_labelled operation_shape (gives_call_core limits)
  gives_operation_core op.ExtractValue = gives_labelled operation_shape gives_extract_core
  gives_operation_core op.InsertValue = gives_labelled operation_shape gives_insert_core
  gives_operation_core op.Ret = gives_fail operation_shape IsNarrowOperation
  gives_operation_core op.Br = gives_fail operation_shape IsNarrowOperation
  gives_operation_core op.Switch = gives_fail operation_shape IsNarrowOperation
  gives_operation_core op.Unreachable = gives_fail operation_shape IsNarrowOperation
  gives_operation_core op.Add = gives_binary op.Add
  gives_operation_core op.Sub = gives_binary op.Sub
  gives_operation_core op.Mul = gives_binary op.Mul
  gives_operation_core op.UDiv = gives_binary op.UDiv
  gives_operation_core op.SDiv = gives_binary op.SDiv
  gives_operation_core op.URem = gives_binary op.URem
  gives_operation_core op.SRem = gives_binary op.SRem
  gives_operation_core op.Shl = gives_binary op.Shl
  gives_operation_core op.LShr = gives_binary op.LShr
  gives_operation_core op.AShr = gives_binary op.AShr
  gives_operation_core op.And = gives_binary op.And
  gives_operation_core op.Or = gives_binary op.Or
  gives_operation_core op.Xor = gives_binary op.Xor

  gives_operation_over_core : (classes : List ℕ) → Gives (operation_over_core classes limits) IsNarrowOperation
  unfolding operation_over_core
  gives_operation_over_core classes =
      gives_alt class
      (gives_second (word terminal.TailMark) (gives_second (word (terminal.Opcode op.Call)) (gives_labelled call_shape (gives_call_core limits))))
      (gives_chain operation_shape IsNarrowOperation (gives_any (one class classes opcode_of)) (λ opcode x. gives_labelled operation_shape (gives_operation_core opcode)))

  -- an instruction without what its result is called
  pub gives_operation_over : (classes : List ℕ) → Gives (operation_over classes limits) IsNarrowOperation
  gives_operation_over classes = gives_labelled (operation_over_shape classes) (gives_operation_over_core classes)
