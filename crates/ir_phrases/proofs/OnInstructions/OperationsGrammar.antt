-- The rows of what follows an opcode are read.
use Rattle.std.proofs.Common.{[], ◌∷◌, refl}
use Rattle.ir_tables.specs.declared.opcode.Opcode.{Opcode}
use Rattle.ir_tables.specs.declared.opcode.Opcode.TheVariants as op
use Rattle.ir_terminals.specs.PhraseRows.Reads.{Reads}
use Rattle.ir_terminals.proofs.OnPhraseRows.Plain.{reads_fail, reads_mapped, reads_labelled, reads_wider}
use Rattle.ir_terminals.proofs.OnPhraseRows.Chain.{reads_chain, reads_second, reads_before, reads_pair}
use Rattle.ir_terminals.specs.declared.limits.Limits.{Limits}
use Rattle.ir_terminals.specs.declared.terminal.Terminal.TheVariants as terminal
use Rattle.ir_terminals.specs.Role.{class}
use Rattle.ir_terminals.specs.Terminal.{code}
use Rattle.ir_terminals.specs.Tokens.{integer_row}
use Rattle.ir_terminals.proofs.RowsRead.{reads_word, reads_integer, reads_local, reads_predicate}
use Rattle.ir_phrases.specs.Constants.Types.{type_shape}
use Rattle.ir_phrases.specs.Constants.Values.{typed_value_core}
use Rattle.ir_phrases.proofs.OnConstants.Grammar.{reads_flags, reads_type, reads_value, reads_typed_value}
use Rattle.ir_phrases.specs.Instructions.Dropped.{comma_shape}
use Rattle.ir_phrases.specs.Instructions.Operations.{tail_shape, next_value_core, next_value_row, next_typed_value_core, next_typed_value_row, operands_shape, operands_core, operands_row, cast_type_shape, cast_type_core, cast_type_row, arms_core, arms_row, address_core, address_row, from_block_core, from_block_row, incoming_shape, incoming_core, incoming_row, operand_list_core, operand_list_row, indices_core, indices_row, operation_shape, binary_core, binary_row, compare_core, compare_row, cast_core, cast_row, select_core, select_row, freeze_core, freeze_row, phi_core, phi_row, load_core, load_row, store_core, store_row, alloca_core, alloca_row, element_address_core, element_address_row, extract_core, extract_row, insert_core, insert_row, call_operation_row, operation_core, operation_behind}
use Rattle.ir_phrases.proofs.OnInstructions.DroppedGrammar.{reads_attachments}
use Rattle.ir_phrases.proofs.OnInstructions.TailsGrammar.{reads_alignment, reads_count, reads_listed}
use Rattle.ir_phrases.proofs.OnInstructions.CallsGrammar.{reads_call_core}

reads_next_value_core : (limits : Limits) → Reads class (next_value_core limits) comma_shape
unfolding next_value_core
reads_next_value_core limits =
    reads_second class (reads_word terminal.Comma) (reads_value limits) refl

reads_next_value : (limits : Limits) → Reads class (next_value_row limits) comma_shape
reads_next_value limits = reads_labelled (reads_next_value_core limits)

reads_next_typed_value_core : (limits : Limits) → Reads class (next_typed_value_core limits) comma_shape
unfolding next_typed_value_core
reads_next_typed_value_core limits =
    reads_second class (reads_word terminal.Comma) (reads_typed_value limits) refl

reads_next_typed_value : (limits : Limits) → Reads class (next_typed_value_row limits) comma_shape
reads_next_typed_value limits = reads_labelled (reads_next_typed_value_core limits)

reads_operands_core : (limits : Limits) → Reads class (operands_core limits) operands_shape
unfolding operands_core
reads_operands_core limits =
    reads_pair class (reads_typed_value limits) (reads_before class (reads_next_value limits) reads_attachments refl) refl

reads_operands : (limits : Limits) → Reads class (operands_row limits) operands_shape
reads_operands limits = reads_labelled (reads_operands_core limits)

reads_cast_type_core : (limits : Limits) → Reads class (cast_type_core limits) cast_type_shape
unfolding cast_type_core
reads_cast_type_core limits =
    reads_second class (reads_word terminal.To) (reads_before class (reads_type limits) reads_attachments refl) refl

reads_cast_type : (limits : Limits) → Reads class (cast_type_row limits) cast_type_shape
reads_cast_type limits = reads_labelled (reads_cast_type_core limits)

reads_arms_core : (limits : Limits) → Reads class (arms_core limits) tail_shape
unfolding arms_core
reads_arms_core limits =
    reads_pair class (reads_next_typed_value limits) (reads_before class (reads_next_typed_value limits) reads_attachments refl) refl

reads_arms : (limits : Limits) → Reads class (arms_row limits) tail_shape
reads_arms limits = reads_labelled (reads_arms_core limits)

reads_address_core : (limits : Limits) → Reads class (address_core limits) tail_shape
unfolding address_core
reads_address_core limits =
    reads_pair class (reads_next_typed_value limits) reads_alignment refl

reads_address : (limits : Limits) → Reads class (address_row limits) tail_shape
reads_address limits = reads_labelled (reads_address_core limits)

reads_from_block_core : Reads class from_block_core comma_shape
unfolding from_block_core
reads_from_block_core =
    reads_second class (reads_word terminal.Comma) (reads_before class reads_local (reads_word terminal.CloseBracket) refl) refl

reads_from_block : Reads class from_block_row comma_shape
reads_from_block = reads_labelled reads_from_block_core

reads_incoming_core : (limits : Limits) → Reads class (incoming_core limits) incoming_shape
unfolding incoming_core
reads_incoming_core limits =
    reads_second class (reads_word terminal.OpenBracket) (reads_pair class (reads_value limits) reads_from_block refl) refl

pub reads_incoming : (limits : Limits) → Reads class (incoming_row limits) incoming_shape
reads_incoming limits = reads_labelled (reads_incoming_core limits)

reads_operand_list_core : (limits : Limits) → Reads class (operand_list_core limits) tail_shape
unfolding operand_list_core
reads_operand_list_core limits =
    reads_chain class (reads_next_typed_value limits)
    (λ t. reads_listed type_shape.first (typed_value_core limits) (reads_typed_value limits) refl (t ∷ [])) refl

reads_operand_list : (limits : Limits) → Reads class (operand_list_row limits) tail_shape
reads_operand_list limits = reads_labelled (reads_operand_list_core limits)

reads_indices_core : Reads class indices_core tail_shape
unfolding indices_core
reads_indices_core =
    reads_second class (reads_word terminal.Comma)
    (reads_chain class reads_integer (λ i. reads_listed (code terminal.Integer ∷ []) integer_row reads_integer refl (i ∷ [])) refl) refl

reads_indices : Reads class indices_row tail_shape
reads_indices = reads_labelled reads_indices_core

reads_binary_core : (opcode : Opcode) (limits : Limits) → Reads class (binary_core opcode limits) operation_shape
unfolding binary_core
reads_binary_core opcode limits =
    reads_wider class operation_shape
    (reads_mapped class _ (reads_pair class (reads_flags opcode) (reads_operands limits) refl)) refl refl (λ e. e)

reads_binary : (opcode : Opcode) (limits : Limits) → Reads class (binary_row opcode limits) operation_shape
reads_binary opcode limits = reads_labelled (reads_binary_core opcode limits)

reads_compare_core : (limits : Limits) → Reads class (compare_core limits) operation_shape
unfolding compare_core
reads_compare_core limits =
    reads_wider class operation_shape
    (reads_mapped class _ (reads_pair class (reads_flags op.ICmp) (reads_pair class reads_predicate (reads_operands limits) refl) refl)) refl refl (λ e. e)

reads_compare : (limits : Limits) → Reads class (compare_row limits) operation_shape
reads_compare limits = reads_labelled (reads_compare_core limits)

reads_cast_core : (opcode : Opcode) (limits : Limits) → Reads class (cast_core opcode limits) operation_shape
unfolding cast_core
reads_cast_core opcode limits =
    reads_wider class operation_shape
    (reads_mapped class _ (reads_pair class (reads_flags opcode) (reads_pair class (reads_typed_value limits) (reads_cast_type limits) refl) refl)) refl refl (λ e. e)

reads_cast : (opcode : Opcode) (limits : Limits) → Reads class (cast_row opcode limits) operation_shape
reads_cast opcode limits = reads_labelled (reads_cast_core opcode limits)

reads_select_core : (limits : Limits) → Reads class (select_core limits) operation_shape
unfolding select_core
reads_select_core limits =
    reads_wider class operation_shape
    (reads_mapped class _ (reads_pair class (reads_typed_value limits) (reads_arms limits) refl)) refl refl (λ e. e)

reads_select : (limits : Limits) → Reads class (select_row limits) operation_shape
reads_select limits = reads_labelled (reads_select_core limits)

reads_freeze_core : (limits : Limits) → Reads class (freeze_core limits) operation_shape
unfolding freeze_core
reads_freeze_core limits =
    reads_wider class operation_shape
    (reads_mapped class _ (reads_before class (reads_typed_value limits) reads_attachments refl)) refl refl (λ e. e)

reads_freeze : (limits : Limits) → Reads class (freeze_row limits) operation_shape
reads_freeze limits = reads_labelled (reads_freeze_core limits)

reads_phi_core : (limits : Limits) → Reads class (phi_core limits) operation_shape
unfolding phi_core
reads_phi_core limits =
    reads_wider class operation_shape
    (reads_mapped class _ (reads_pair class (reads_type limits)
    (reads_chain class (reads_incoming limits)
    (λ i. reads_listed (code terminal.OpenBracket ∷ []) (incoming_core limits) (reads_incoming limits) refl (i ∷ [])) refl) refl)) refl refl (λ e. e)

reads_phi : (limits : Limits) → Reads class (phi_row limits) operation_shape
reads_phi limits = reads_labelled (reads_phi_core limits)

reads_load_core : (limits : Limits) → Reads class (load_core limits) operation_shape
unfolding load_core
reads_load_core limits =
    reads_wider class operation_shape
    (reads_mapped class _ (reads_pair class (reads_flags op.Load) (reads_pair class (reads_type limits) (reads_address limits) refl) refl)) refl refl (λ e. e)

reads_load : (limits : Limits) → Reads class (load_row limits) operation_shape
reads_load limits = reads_labelled (reads_load_core limits)

reads_store_core : (limits : Limits) → Reads class (store_core limits) operation_shape
unfolding store_core
reads_store_core limits =
    reads_wider class operation_shape
    (reads_mapped class _ (reads_pair class (reads_flags op.Store) (reads_pair class (reads_typed_value limits) (reads_address limits) refl) refl)) refl refl (λ e. e)

reads_store : (limits : Limits) → Reads class (store_row limits) operation_shape
reads_store limits = reads_labelled (reads_store_core limits)

reads_alloca_core : (limits : Limits) → Reads class (alloca_core limits) operation_shape
unfolding alloca_core
reads_alloca_core limits =
    reads_wider class operation_shape
    (reads_mapped class _ (reads_pair class (reads_type limits) (reads_count limits) refl)) refl refl (λ e. e)

reads_alloca : (limits : Limits) → Reads class (alloca_row limits) operation_shape
reads_alloca limits = reads_labelled (reads_alloca_core limits)

reads_element_address_core : (limits : Limits) → Reads class (element_address_core limits) operation_shape
unfolding element_address_core
reads_element_address_core limits =
    reads_wider class operation_shape
    (reads_mapped class _ (reads_pair class (reads_flags op.GetElementPtr) (reads_pair class (reads_type limits) (reads_operand_list limits) refl) refl)) refl refl (λ e. e)

reads_element_address : (limits : Limits) → Reads class (element_address_row limits) operation_shape
reads_element_address limits = reads_labelled (reads_element_address_core limits)

reads_extract_core : (limits : Limits) → Reads class (extract_core limits) operation_shape
unfolding extract_core
reads_extract_core limits =
    reads_wider class operation_shape
    (reads_mapped class _ (reads_pair class (reads_typed_value limits) reads_indices refl)) refl refl (λ e. e)

reads_extract : (limits : Limits) → Reads class (extract_row limits) operation_shape
reads_extract limits = reads_labelled (reads_extract_core limits)

reads_insert_core : (limits : Limits) → Reads class (insert_core limits) operation_shape
unfolding insert_core
reads_insert_core limits =
    reads_wider class operation_shape
    (reads_mapped class _ (reads_pair class (reads_typed_value limits) (reads_pair class (reads_next_typed_value limits) reads_indices refl) refl)) refl refl (λ e. e)

reads_insert : (limits : Limits) → Reads class (insert_row limits) operation_shape
reads_insert limits = reads_labelled (reads_insert_core limits)

reads_call_operation : (limits : Limits) → Reads class (call_operation_row limits) operation_shape
reads_call_operation limits = reads_labelled (reads_wider class operation_shape (reads_call_core limits) refl refl (λ e. e))

reads_operation_core : (limits : Limits) (opcode : Opcode) → Reads class (operation_core limits opcode) operation_shape
unfolding operation_core
reads_operation_core limits op.ICmp = reads_compare limits
reads_operation_core limits op.Trunc = reads_cast op.Trunc limits
reads_operation_core limits op.ZExt = reads_cast op.ZExt limits
reads_operation_core limits op.SExt = reads_cast op.SExt limits
reads_operation_core limits op.PtrToInt = reads_cast op.PtrToInt limits
reads_operation_core limits op.IntToPtr = reads_cast op.IntToPtr limits
reads_operation_core limits op.Select = reads_select limits
reads_operation_core limits op.Freeze = reads_freeze limits
reads_operation_core limits op.Phi = reads_phi limits
reads_operation_core limits op.Load = reads_load limits
reads_operation_core limits op.Store = reads_store limits
reads_operation_core limits op.Alloca = reads_alloca limits
reads_operation_core limits op.GetElementPtr = reads_element_address limits
reads_operation_core limits op.Call = reads_call_operation limits
reads_operation_core limits op.ExtractValue = reads_extract limits
reads_operation_core limits op.InsertValue = reads_insert limits
reads_operation_core limits op.Ret = reads_fail class operation_shape
reads_operation_core limits op.Br = reads_fail class operation_shape
reads_operation_core limits op.Switch = reads_fail class operation_shape
reads_operation_core limits op.Unreachable = reads_fail class operation_shape
reads_operation_core limits opcode = reads_binary opcode limits

pub reads_operation_behind : (limits : Limits) (opcode : Opcode) → Reads class (operation_behind limits opcode) operation_shape
reads_operation_behind limits opcode = reads_labelled (reads_operation_core limits opcode)
