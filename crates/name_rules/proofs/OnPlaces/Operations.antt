-- What the operations of a text ask for stands at their tokens, in order.
use Rattle.std.proofs.Common.{◌≡◌, ℕ, true, List, [], ◌∷◌, ◌++◌, Option, Some, None, refl, sym, ap, subst, flat_map}
use Rattle.ir_tables.specs.declared.opcode.Opcode.{Opcode}
use Rattle.ir_tables.specs.declared.opcode.Opcode.TheVariants as op
use Rattle.ir_terminals.specs.PhraseRows.Row.{one, labelled}
use Rattle.ir_terminals.specs.declared.limits.Limits.{Limits}
use Rattle.ir_terminals.specs.declared.terminal.Terminal.TheVariants as terminal
use Rattle.ir_terminals.specs.declared.values.Integer.{Integer}
use Rattle.ir_terminals.specs.Role.{class}
use Rattle.ir_terminals.specs.Terminal.{code}
use Rattle.ir_terminals.specs.Values.{integer_of, opcode_of}
use Rattle.ir_terminals.specs.Tokens.{word, integer_row, predicate_row}
use Rattle.ir_phrases.specs.Constants.Flags.{flags_row}
use Rattle.ir_phrases.specs.Constants.Tree.{ValueTree, TypedValueTree}
use Rattle.ir_phrases.specs.Constants.Values.{typed_value_row}
use Rattle.ir_phrases.specs.Instructions.Tree.{IncomingTree}
use Rattle.ir_phrases.specs.Instructions.Dropped.{comma_shape, commas_shape, attachment_row, attachments_row}
use Rattle.ir_phrases.specs.Instructions.Tails.{alignment_behind_row, alignment_core, alignment_row, count_behind_row, count_core}
use Rattle.ir_phrases.specs.Instructions.Calls.{call_shape}
use Rattle.ir_phrases.specs.Instructions.Operations.{tail_shape, next_value_core, next_value_row, next_typed_value_core, next_typed_value_row, operands_shape, operands_core, operands_row, cast_type_shape, cast_type_core, cast_type_row, arms_core, arms_row, address_core, address_row, from_block_core, incoming_shape, incoming_core, incoming_row, operand_list_core, operand_list_row, indices_core, indices_row, operation_shape, binary_core, compare_core, cast_core, select_core, freeze_core, phi_core, load_core, store_core, alloca_core, element_address_core, extract_core, insert_core, operation_core}
use Rattle.ir_phrases.specs.Instructions.Instructions.{operation_over_shape, operation_over_core, operation_over}
use Rattle.type_table.specs.Tree.{Tree}
use Rattle.name_rules.specs.Demand.{Demand, is_index}
use Rattle.name_rules.specs.FunctionDemands.{value_demands, operand_demands, incoming_demands, count_demands, index_demands, alignment_demands}
use Rattle.name_rules.specs.Locals.{Locals}
use Rattle.name_rules.specs.TypeDemands.{Known, type_demands}
use Rattle.name_rules.specs.Written.{type_in}
use Rattle.name_rules.specs.Places.Places.{InOrder}
use Rattle.name_rules.proofs.OnPlaces.Orders.{at_first}
use Rattle.name_rules.proofs.OnPlaces.Draws.{Draws, draws_any, draws_fail, draws_nothing, draws_one, draws_mapped, draws_so, draws_second, draws_before, pair_asked, draws_pair, draws_right, draws_alt, all_asked, draws_labelled, draws_chosen}
use Rattle.name_rules.proofs.OnPlaces.Lists.{draws_list}
use Rattle.name_rules.proofs.OnPlaces.Tokens.{integer_place}
use Rattle.name_rules.proofs.OnPlaces.Types.{draws_type}
use Rattle.name_rules.proofs.OnPlaces.Constants.{value_asked, operand_asked, local_asked, draws_local, draws_value, draws_typed_value}
use Rattle.name_rules.proofs.OnPlaces.Calls.{operation_asked, draws_call_core}

-- ---- alignments and indices

abbrev index_asked : Unit {0} → Integer → List Demand
index_asked x written = is_index written ∷ []

pub draws_index : Draws integer_row index_asked
draws_index = draws_one class (code terminal.Integer ∷ []) integer_of index_asked (λ t i e x. at_first t [] (is_index i) [] (ap Some (integer_place t i e)) tt)

indices_flat : (all : List Integer) → index_demands all ≡ flat_map (index_asked tt) all
indices_flat [] = refl
indices_flat (i ∷ all) = ap (λ more. is_index i ∷ more) (indices_flat all)

abbrev indices_asked : Unit {0} → List Integer → List Demand
indices_asked x all = index_demands all

draws_indices_core : Draws indices_core indices_asked
unfolding indices_core
draws_indices_core =
    draws_so indices_asked (draws_second (word terminal.Comma) (draws_list integer_row index_asked draws_index integer_row draws_index)) (λ us all d x. subst (InOrder us) (sym (indices_flat all)) (d tt))

draws_indices : Draws indices_row indices_asked
draws_indices = draws_labelled tail_shape draws_indices_core

abbrev pub alignment_asked : Unit {0} → Option Integer → List Demand
alignment_asked x written = alignment_demands written

draws_alignment_behind : Draws alignment_behind_row alignment_asked
draws_alignment_behind =
    draws_alt class (draws_before attachments_row (draws_mapped Some alignment_asked (draws_second (word terminal.Align) draws_index) (λ us i d x. d tt)))
    (draws_mapped _ alignment_asked (draws_second attachment_row (draws_any (Unit {0}) attachments_row)) (λ us u d x. tt))

draws_alignment_core : Draws alignment_core alignment_asked
unfolding alignment_core
draws_alignment_core = draws_alt class (draws_second (word terminal.Comma) draws_alignment_behind) (draws_nothing None alignment_asked (λ x. refl))

draws_alignment : Draws alignment_row alignment_asked
draws_alignment = draws_labelled commas_shape draws_alignment_core

-- ---- operands

-- two operands of one type
abbrev operands_asked : Known × Locals → TypedValueTree × ValueTree → List Demand
operands_asked x v = operand_demands x.0 x.1 v.0 ++ value_demands x.0 x.1 (type_in v.0.0) v.1

abbrev incoming_asked : Known × (Locals × Tree) → IncomingTree → List Demand
incoming_asked x v = incoming_demands x.0 x.1.0 x.1.1 v

-- the count of an alloca
abbrev counted : Known × Locals → Option TypedValueTree → List Demand
counted x o = count_demands x.0 x.1 o

-- and its alignment
abbrev count_asked : Known × Locals → Option TypedValueTree × Option Integer → List Demand
count_asked x v = count_demands x.0 x.1 v.0 ++ alignment_demands v.1

draws_from_block_core : Draws from_block_core local_asked
unfolding from_block_core
draws_from_block_core = draws_second (word terminal.Comma) (draws_before (word terminal.CloseBracket) draws_local)

module _ (limits : Limits) where
  draws_next_value_core : Draws (next_value_core limits) value_asked
  unfolding next_value_core
  draws_next_value_core = draws_second (word terminal.Comma) (draws_value limits)

  draws_next_value : Draws (next_value_row limits) value_asked
  draws_next_value = draws_labelled comma_shape draws_next_value_core

  draws_next_core : Draws (next_typed_value_core limits) operand_asked
  unfolding next_typed_value_core
  draws_next_core = draws_second (word terminal.Comma) (draws_typed_value limits)

  draws_next : Draws (next_typed_value_row limits) operand_asked
  draws_next = draws_labelled comma_shape draws_next_core

  draws_operands_core : Draws (operands_core limits) operands_asked
  unfolding operands_core
  draws_operands_core =
      draws_so operands_asked (draws_pair (draws_typed_value limits) (draws_before attachments_row draws_next_value)) (λ us v d x. d (x, (x.0, (x.1, type_in v.0.0))))

  draws_operands : Draws (operands_row limits) operands_asked
  draws_operands = draws_labelled operands_shape draws_operands_core

  draws_cast_type_core : Draws (cast_type_core limits) type_demands
  unfolding cast_type_core
  draws_cast_type_core = draws_second (word terminal.To) (draws_before attachments_row (draws_type limits))

  draws_cast_type : Draws (cast_type_row limits) type_demands
  draws_cast_type = draws_labelled cast_type_shape draws_cast_type_core

  draws_arms_core : Draws (arms_core limits) (pair_asked operand_asked operand_asked)
  unfolding arms_core
  draws_arms_core = draws_pair draws_next (draws_before attachments_row draws_next)

  draws_arms : Draws (arms_row limits) (pair_asked operand_asked operand_asked)
  draws_arms = draws_labelled tail_shape draws_arms_core

  draws_address_core : Draws (address_core limits) (pair_asked operand_asked alignment_asked)
  unfolding address_core
  draws_address_core = draws_pair draws_next draws_alignment

  draws_address : Draws (address_row limits) (pair_asked operand_asked alignment_asked)
  draws_address = draws_labelled tail_shape draws_address_core

  draws_incoming_core : Draws (incoming_core limits) incoming_asked
  unfolding incoming_core
  draws_incoming_core =
      draws_second (word terminal.OpenBracket)
      (draws_so incoming_asked (draws_pair (draws_value limits) (draws_labelled comma_shape draws_from_block_core)) (λ us v d x. d (x, (x.1.0, true))))

  draws_incoming : Draws (incoming_row limits) incoming_asked
  draws_incoming = draws_labelled incoming_shape draws_incoming_core

  draws_operand_list_core : Draws (operand_list_core limits) (all_asked operand_asked)
  unfolding operand_list_core
  draws_operand_list_core = draws_list (typed_value_row limits) operand_asked (draws_typed_value limits) (next_typed_value_row limits) draws_next

  draws_operand_list : Draws (operand_list_row limits) (all_asked operand_asked)
  draws_operand_list = draws_labelled tail_shape draws_operand_list_core

  draws_count_behind : Draws (count_behind_row limits) count_asked
  draws_count_behind =
      draws_alt class
      (draws_so count_asked (draws_pair (draws_mapped Some counted (draws_typed_value limits) (λ us a d x. d x)) draws_alignment) (λ us v d x. d (x, tt)))
      (draws_mapped _ count_asked draws_alignment_behind (λ us a d x. d tt))

  draws_count_core : Draws (count_core limits) count_asked
  unfolding count_core
  draws_count_core = draws_alt class (draws_second (word terminal.Comma) draws_count_behind) (draws_nothing (None, None) count_asked (λ x. refl))

  -- ---- operations

  draws_binary_core : (opcode : Opcode) → Draws (binary_core opcode limits) operation_asked
  unfolding binary_core
  draws_binary_core opcode = draws_mapped _ operation_asked (draws_right (flags_row opcode) draws_operands) (λ us v d x. d x)

  draws_compare_core : Draws (compare_core limits) operation_asked
  unfolding compare_core
  draws_compare_core = draws_mapped _ operation_asked (draws_right (flags_row op.ICmp) (draws_right predicate_row draws_operands)) (λ us v d x. d x)

  draws_cast_core : (opcode : Opcode) → Draws (cast_core opcode limits) operation_asked
  unfolding cast_core
  draws_cast_core opcode = draws_mapped _ operation_asked (draws_right (flags_row opcode) (draws_pair (draws_typed_value limits) draws_cast_type)) (λ us v d x. d (x, x.0))

  draws_select_core : Draws (select_core limits) operation_asked
  unfolding select_core
  draws_select_core = draws_mapped _ operation_asked (draws_pair (draws_typed_value limits) draws_arms) (λ us v d x. d (x, (x, x)))

  draws_freeze_core : Draws (freeze_core limits) operation_asked
  unfolding freeze_core
  draws_freeze_core = draws_mapped _ operation_asked (draws_before attachments_row (draws_typed_value limits)) (λ us v d x. d x)

  draws_phi_core : Draws (phi_core limits) operation_asked
  unfolding phi_core
  draws_phi_core =
      draws_mapped _ operation_asked (draws_pair (draws_type limits) (draws_list (incoming_row limits) incoming_asked draws_incoming (incoming_row limits) draws_incoming))
      (λ us v d x. d (x.0, (x.0, (x.1, type_in v.0))))

  draws_load_core : Draws (load_core limits) operation_asked
  unfolding load_core
  draws_load_core = draws_mapped _ operation_asked (draws_right (flags_row op.Load) (draws_pair (draws_type limits) draws_address)) (λ us v d x. d (x.0, (x, tt)))

  draws_store_core : Draws (store_core limits) operation_asked
  unfolding store_core
  draws_store_core = draws_mapped _ operation_asked (draws_right (flags_row op.Store) (draws_pair (draws_typed_value limits) draws_address)) (λ us v d x. d (x, (x, tt)))

  draws_alloca_core : Draws (alloca_core limits) operation_asked
  unfolding alloca_core
  draws_alloca_core = draws_mapped _ operation_asked (draws_pair (draws_type limits) (draws_labelled commas_shape draws_count_core)) (λ us v d x. d (x.0, x))

  draws_element_address_core : Draws (element_address_core limits) operation_asked
  unfolding element_address_core
  draws_element_address_core =
      draws_mapped _ operation_asked (draws_right (flags_row op.GetElementPtr) (draws_pair (draws_type limits) draws_operand_list)) (λ us v d x. d (x.0, x))

  draws_extract_core : Draws (extract_core limits) operation_asked
  unfolding extract_core
  draws_extract_core = draws_mapped _ operation_asked (draws_pair (draws_typed_value limits) draws_indices) (λ us v d x. d (x, tt))

  draws_insert_core : Draws (insert_core limits) operation_asked
  unfolding insert_core
  draws_insert_core = draws_mapped _ operation_asked (draws_pair (draws_typed_value limits) (draws_pair draws_next draws_indices)) (λ us v d x. d (x, (x, tt)))

  draws_binary : (opcode : Opcode) → Draws (labelled operation_shape (binary_core opcode limits)) operation_asked
  draws_binary opcode = draws_labelled operation_shape (draws_binary_core opcode)

  draws_cast : (opcode : Opcode) → Draws (labelled operation_shape (cast_core opcode limits)) operation_asked
  draws_cast opcode = draws_labelled operation_shape (draws_cast_core opcode)

  draws_operation_core : (opcode : Opcode) → Draws (operation_core limits opcode) operation_asked
  unfolding operation_core
  draws_operation_core op.ICmp = draws_labelled operation_shape draws_compare_core
  draws_operation_core op.Trunc = draws_cast op.Trunc
  draws_operation_core op.ZExt = draws_cast op.ZExt
  draws_operation_core op.SExt = draws_cast op.SExt
  draws_operation_core op.PtrToInt = draws_cast op.PtrToInt
  draws_operation_core op.IntToPtr = draws_cast op.IntToPtr
  draws_operation_core op.Select = draws_labelled operation_shape draws_select_core
  draws_operation_core op.Freeze = draws_labelled operation_shape draws_freeze_core
  draws_operation_core op.Phi = draws_labelled operation_shape draws_phi_core
  draws_operation_core op.Load = draws_labelled operation_shape draws_load_core
  draws_operation_core op.Store = draws_labelled operation_shape draws_store_core
  draws_operation_core op.Alloca = draws_labelled operation_shape draws_alloca_core
  draws_operation_core op.GetElementPtr = draws_labelled operation_shape draws_element_address_core
  draws_operation_core op.Call = draws_labelled operation_shape (draws_call_core limits)
  draws_operation_core op.ExtractValue = draws_labelled operation_shape draws_extract_core
  draws_operation_core op.InsertValue = draws_labelled operation_shape draws_insert_core
  draws_operation_core op.Ret = draws_fail operation_shape operation_asked
  draws_operation_core op.Br = draws_fail operation_shape operation_asked
  draws_operation_core op.Switch = draws_fail operation_shape operation_asked
  draws_operation_core op.Unreachable = draws_fail operation_shape operation_asked
  draws_operation_core op.Add = draws_binary op.Add
  draws_operation_core op.Sub = draws_binary op.Sub
  draws_operation_core op.Mul = draws_binary op.Mul
  draws_operation_core op.UDiv = draws_binary op.UDiv
  draws_operation_core op.SDiv = draws_binary op.SDiv
  draws_operation_core op.URem = draws_binary op.URem
  draws_operation_core op.SRem = draws_binary op.SRem
  draws_operation_core op.Shl = draws_binary op.Shl
  draws_operation_core op.LShr = draws_binary op.LShr
  draws_operation_core op.AShr = draws_binary op.AShr
  draws_operation_core op.And = draws_binary op.And
  draws_operation_core op.Or = draws_binary op.Or
  draws_operation_core op.Xor = draws_binary op.Xor

  draws_operation_over_core : (classes : List ℕ) → Draws (operation_over_core classes limits) operation_asked
  unfolding operation_over_core
  draws_operation_over_core classes =
      draws_alt class
      (draws_second (word terminal.TailMark) (draws_second (word (terminal.Opcode op.Call)) (draws_labelled call_shape (draws_call_core limits))))
      (draws_chosen (one class classes opcode_of) operation_shape operation_asked (λ opcode. draws_labelled operation_shape (draws_operation_core opcode)))

  -- an instruction without what its result is called
  pub draws_operation_over : (classes : List ℕ) → Draws (operation_over classes limits) operation_asked
  draws_operation_over classes = draws_labelled (operation_over_shape classes) (draws_operation_over_core classes)
