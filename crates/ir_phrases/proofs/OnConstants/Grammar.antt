-- The rows of types, constants and values are read.
use Rattle.std.proofs.Common.{ℕ, zero, suc, List, [], ◌∷◌, refl, Option}
use Rattle.ir_base.specs.declared.place.Place.{Place}
use Rattle.ir_lexer.specs.Ahead.{Located}
use Rattle.ir_tables.specs.declared.opcode.Opcode.{Opcode}
use Rattle.ir_tables.specs.declared.opcode.Opcode.TheVariants as op
use Rattle.ir_terminals.specs.PhraseRows.Row.{Row, labelled, mapped}
use Rattle.ir_terminals.specs.PhraseRows.Reads.{Reads}
use Rattle.ir_terminals.proofs.OnPhraseRows.Plain.{reads_one, reads_fail, reads_labelled, reads_mapped, reads_wider}
use Rattle.ir_terminals.proofs.OnPhraseRows.Chain.{reads_chain, reads_both, reads_second, reads_before, reads_pair}
use Rattle.ir_terminals.proofs.OnPhraseRows.Alt.{reads_alt}
use Rattle.ir_terminals.proofs.OnPhraseRows.Repeated.{reads_many, reads_separated}
use Rattle.ir_terminals.proofs.OnPhraseRows.Loop.{reads_loop}
use Rattle.ir_terminals.specs.declared.limits.Limits.{Limits}
use Rattle.ir_terminals.specs.declared.terminal.Terminal.{Terminal}
use Rattle.ir_terminals.specs.declared.terminal.Terminal.TheVariants as terminal
use Rattle.ir_terminals.specs.Role.{class}
use Rattle.ir_terminals.specs.Terminal.{integer_type_class}
use Rattle.ir_terminals.specs.Tokens.{local_row}
use Rattle.ir_terminals.specs.Values.{width_of_type, opcode_in}
use Rattle.ir_terminals.proofs.RowsRead.{reads_word, reads_integer}
use Rattle.ir_phrases.specs.Constants.Placed.{token_with_place, placed_by}
use Rattle.ir_phrases.specs.Constants.Tree.{TypeTree, TypedConstantTree, ConstantTree, LocalValue}
use Rattle.ir_phrases.specs.Constants.Flags.{flag_shape, flag_step, flags_shape, flags_core, flags_row}
use Rattle.ir_phrases.specs.Constants.Types.{nest_shape, value_type_shape, type_shape, int_row, ptr_row, void_row, named_row, array_row, types_core, types_row, struct_row, packed_row, nest_step, value_type_core, type_core, nest_core, nest_row, type_at, type_row, value_type_row, list_shape, fields_core, fields_row}
use Rattle.ir_phrases.specs.Constants.Constants.{integer_constant_row, address_row, bytes_row, simple_classes, simple_word, simple_row, expression_classes, holder_shape, constant_shape, expression_shape, typed_core, elements_core, elements_row, array_constant_row, struct_constant_row, packed_constant_row, operands_shape, operands_core, operands_row, element_address_row, conversion_row, arithmetic_row, expression_by, expression_core, expression_row, holder_step, constant_core, holder_core, holder_row, constant_at, typed_at, constant_row, typed_constant_row}
use Rattle.ir_phrases.specs.Constants.Values.{value_shape, value_core, value_row, typed_value_core, typed_value_row}

pub reads_placed : {A : Type 0} (classes : List ℕ) (meaning : Terminal → Option A) → Reads class (token_with_place classes meaning) (token_with_place classes meaning).shape
reads_placed classes meaning = reads_one class classes (placed_by meaning)

reads_flag_step : (opcode : Opcode) (flags : ℕ) → Reads class (flag_step opcode flags) flag_shape
reads_flag_step opcode flags = reads_one class _ _

reads_flags_core : (opcode : Opcode) → Reads class (flags_core opcode) flags_shape
unfolding flags_core
reads_flags_core opcode = reads_loop class (reads_flag_step opcode) refl refl 0

pub reads_flags : (opcode : Opcode) → Reads class (flags_row opcode) flags_shape
reads_flags opcode = reads_labelled (reads_flags_core opcode)

reads_int : Reads class int_row int_row.shape
reads_int = reads_mapped class _ (reads_placed (integer_type_class ∷ []) width_of_type)

reads_ptr : Reads class ptr_row ptr_row.shape
reads_ptr = reads_mapped class _ (reads_word terminal.Ptr)

reads_void : Reads class void_row void_row.shape
reads_void = reads_mapped class _ (reads_word terminal.Void)

reads_named : (limits : Limits) → Reads class (named_row limits) (named_row limits).shape
reads_named limits = reads_mapped class _ (reads_one class _ _)

-- rows over any row of types
module _ (t : Row Located TypeTree) (h : Reads class (labelled type_shape t) type_shape) where
  reads_array : Reads class (array_row (labelled type_shape t)) (array_row (labelled type_shape t)).shape
  reads_array =
      reads_mapped class _
      (reads_pair class (reads_word terminal.OpenBracket)
      (reads_pair class reads_integer
      (reads_second class (reads_word terminal.X)
      (reads_before class h (reads_word terminal.CloseBracket) refl) refl) refl) refl)

  reads_types_core : Reads class (types_core (labelled type_shape t)) list_shape
  unfolding types_core
  reads_types_core = reads_separated class (reads_word terminal.Comma) h refl refl refl refl

  pub reads_types_over : Reads class (types_row (labelled type_shape t)) list_shape
  reads_types_over = reads_labelled reads_types_core

  reads_struct : Reads class (struct_row (labelled type_shape t)) (struct_row (labelled type_shape t)).shape
  reads_struct =
      reads_mapped class _
      (reads_pair class (reads_word terminal.OpenBrace)
      (reads_before class reads_types_over (reads_word terminal.CloseBrace) refl) refl)

  reads_packed : Reads class (packed_row (labelled type_shape t)) (packed_row (labelled type_shape t)).shape
  reads_packed =
      reads_mapped class _
      (reads_pair class (reads_word terminal.Less)
      (reads_second class (reads_word terminal.OpenBrace)
      (reads_before class reads_types_over
      (reads_second class (reads_word terminal.CloseBrace) (reads_word terminal.Greater) refl) refl) refl) refl)

  reads_nest_step : Reads class (nest_step (labelled type_shape t)) nest_shape
  reads_nest_step = reads_alt class reads_array (reads_alt class reads_struct reads_packed refl refl) refl refl

reads_value_type_core : (limits : Limits) (nest : Row Located TypeTree) → Reads class (labelled nest_shape nest) nest_shape → Reads class (value_type_core limits (labelled nest_shape nest)) value_type_shape
unfolding value_type_core
reads_value_type_core limits nest h =
    reads_alt class reads_int (reads_alt class reads_ptr (reads_alt class (reads_named limits) h refl refl) refl refl) refl refl

reads_type_core : (limits : Limits) (nest : Row Located TypeTree) → Reads class (labelled nest_shape nest) nest_shape → Reads class (type_core limits (labelled nest_shape nest)) type_shape
unfolding type_core
reads_type_core limits nest h = reads_alt class reads_void (reads_labelled (reads_value_type_core limits nest h)) refl refl

pub reads_nest : (limits : Limits) (depth : ℕ) → Reads class (nest_core limits depth) nest_shape
unfolding nest_core
reads_nest limits zero = reads_fail class nest_shape
reads_nest limits (suc n) =
    reads_nest_step (type_core limits (nest_row limits n)) (reads_labelled (reads_type_core limits (nest_core limits n) (reads_labelled (reads_nest limits n))))

pub reads_type_at : (limits : Limits) (depth : ℕ) → Reads class (type_at limits depth) type_shape
reads_type_at limits depth = reads_labelled (reads_type_core limits (nest_core limits depth) (reads_labelled (reads_nest limits depth)))

pub reads_type : (limits : Limits) → Reads class (type_row limits) type_shape
reads_type limits = reads_type_at limits limits.nesting

pub reads_value_type : (limits : Limits) → Reads class (value_type_row limits) value_type_shape
reads_value_type limits =
    reads_labelled (reads_value_type_core limits (nest_core limits limits.nesting) (reads_labelled (reads_nest limits limits.nesting)))

reads_fields_core : (limits : Limits) (depth : ℕ) → Reads class (fields_core limits depth) list_shape
unfolding fields_core
reads_fields_core limits zero = reads_fail class list_shape
reads_fields_core limits (suc n) = reads_types_over (type_core limits (nest_row limits n)) (reads_type_at limits n)

pub reads_fields : (limits : Limits) → Reads class (fields_row limits) list_shape
reads_fields limits = reads_labelled (reads_fields_core limits limits.nesting)

reads_simple : Reads class simple_row simple_row.shape
reads_simple = reads_mapped class _ (reads_placed simple_classes simple_word)

reads_integer_constant : Reads class integer_constant_row integer_constant_row.shape
reads_integer_constant = reads_mapped class _ reads_integer

reads_address : Reads class address_row address_row.shape
reads_address = reads_mapped class _ (reads_one class _ _)

reads_bytes : Reads class bytes_row bytes_row.shape
reads_bytes = reads_mapped class _ (reads_one class _ _)

-- rows over any row of constants with their types
module _ (limits : Limits) (c : Row Located TypedConstantTree) (h : Reads class (labelled type_shape c) type_shape) where
  reads_elements_core : Reads class (elements_core (labelled type_shape c)) list_shape
  unfolding elements_core
  reads_elements_core = reads_separated class (reads_word terminal.Comma) h refl refl refl refl

  reads_elements : Reads class (elements_row (labelled type_shape c)) list_shape
  reads_elements = reads_labelled reads_elements_core

  reads_array_constant : Reads class (array_constant_row (labelled type_shape c)) (array_constant_row (labelled type_shape c)).shape
  reads_array_constant =
      reads_mapped class _
      (reads_pair class (reads_word terminal.OpenBracket)
      (reads_before class reads_elements (reads_word terminal.CloseBracket) refl) refl)

  reads_struct_constant : Reads class (struct_constant_row (labelled type_shape c)) (struct_constant_row (labelled type_shape c)).shape
  reads_struct_constant =
      reads_mapped class _
      (reads_pair class (reads_word terminal.OpenBrace)
      (reads_before class reads_elements (reads_word terminal.CloseBrace) refl) refl)

  reads_packed_constant : Reads class (packed_constant_row (labelled type_shape c)) (packed_constant_row (labelled type_shape c)).shape
  reads_packed_constant =
      reads_mapped class _
      (reads_pair class (reads_word terminal.Less)
      (reads_second class (reads_word terminal.OpenBrace)
      (reads_before class reads_elements
      (reads_second class (reads_word terminal.CloseBrace) (reads_word terminal.Greater) refl) refl) refl) refl)

  reads_operands_core : Reads class (operands_core (labelled type_shape c)) operands_shape
  unfolding operands_core
  reads_operands_core = reads_both class _ h (reads_many class (reads_second class (reads_word terminal.Comma) h refl) refl refl) refl

  reads_operands : Reads class (operands_row (labelled type_shape c)) operands_shape
  reads_operands = reads_labelled reads_operands_core

  reads_element_address : (place : Place) → Reads class (element_address_row limits (labelled type_shape c) place) (element_address_row limits (labelled type_shape c) place).shape
  reads_element_address place =
      reads_mapped class _
      (reads_pair class (reads_flags op.GetElementPtr)
      (reads_second class (reads_word terminal.OpenParenthesis)
      (reads_pair class (reads_before class (reads_type limits) (reads_word terminal.Comma) refl)
      (reads_before class reads_operands (reads_word terminal.CloseParenthesis) refl) refl) refl) refl)

  reads_conversion : (place : Place) (opcode : Opcode) → Reads class (conversion_row limits (labelled type_shape c) place opcode) (conversion_row limits (labelled type_shape c) place opcode).shape
  reads_conversion place opcode =
      reads_mapped class _
      (reads_second class (reads_word terminal.OpenParenthesis)
      (reads_pair class (reads_before class h (reads_word terminal.To) refl)
      (reads_before class (reads_type limits) (reads_word terminal.CloseParenthesis) refl) refl) refl)

  reads_arithmetic : (place : Place) (opcode : Opcode) → Reads class (arithmetic_row (labelled type_shape c) place opcode) (arithmetic_row (labelled type_shape c) place opcode).shape
  reads_arithmetic place opcode =
      reads_mapped class _
      (reads_pair class (reads_flags opcode)
      (reads_second class (reads_word terminal.OpenParenthesis)
      (reads_pair class (reads_before class h (reads_word terminal.Comma) refl)
      (reads_before class h (reads_word terminal.CloseParenthesis) refl) refl) refl) refl)

  reads_expression_by : (place : Place) (opcode : Opcode) → Reads class (expression_by limits (labelled type_shape c) place opcode) expression_shape
  reads_expression_by place op.GetElementPtr = reads_wider class expression_shape (reads_element_address place) refl refl (λ e. e)
  reads_expression_by place op.PtrToInt = reads_wider class expression_shape (reads_conversion place op.PtrToInt) refl refl (λ e. e)
  reads_expression_by place op.IntToPtr = reads_wider class expression_shape (reads_conversion place op.IntToPtr) refl refl (λ e. e)
  reads_expression_by place op.Trunc = reads_wider class expression_shape (reads_conversion place op.Trunc) refl refl (λ e. e)
  reads_expression_by place op.Add = reads_wider class expression_shape (reads_arithmetic place op.Add) refl refl (λ e. e)
  reads_expression_by place op.Sub = reads_wider class expression_shape (reads_arithmetic place op.Sub) refl refl (λ e. e)
  reads_expression_by place op.Xor = reads_wider class expression_shape (reads_arithmetic place op.Xor) refl refl (λ e. e)
  reads_expression_by place _ = reads_fail class expression_shape

  reads_expression_core : (v : Opcode × Place) → Reads class (expression_core limits (labelled type_shape c) v) expression_shape
  unfolding expression_core
  reads_expression_core v = reads_expression_by v.1 v.0

  reads_expression : Reads class (expression_row limits (labelled type_shape c)) (expression_row limits (labelled type_shape c)).shape
  reads_expression = reads_chain class (reads_placed expression_classes opcode_in) (λ v. reads_labelled (reads_expression_core v)) refl

  reads_holder_step : Reads class (holder_step limits (labelled type_shape c)) holder_shape
  reads_holder_step =
      reads_alt class reads_array_constant (reads_alt class reads_struct_constant (reads_alt class reads_packed_constant reads_expression refl refl) refl refl) refl refl

reads_typed_core : (limits : Limits) (c : Row Located ConstantTree) → Reads class (labelled constant_shape c) constant_shape → Reads class (typed_core limits (labelled constant_shape c)) type_shape
unfolding typed_core
reads_typed_core limits c h = reads_pair class (reads_type limits) h refl

reads_constant_core : (holder : Row Located ConstantTree) → Reads class (labelled holder_shape holder) holder_shape → Reads class (constant_core (labelled holder_shape holder)) constant_shape
unfolding constant_core
reads_constant_core holder h =
    reads_alt class reads_integer_constant
    (reads_alt class reads_address
    (reads_alt class reads_bytes
    (reads_alt class reads_simple h refl refl) refl refl) refl refl) refl refl

pub reads_holder : (limits : Limits) (depth : ℕ) → Reads class (holder_core limits depth) holder_shape
unfolding holder_core
reads_holder limits zero = reads_fail class holder_shape
reads_holder limits (suc n) =
    reads_holder_step limits (typed_core limits (constant_at limits n))
    (reads_labelled (reads_typed_core limits (constant_core (holder_row limits n)) (reads_labelled (reads_constant_core (holder_core limits n) (reads_labelled (reads_holder limits n))))))

pub reads_constant_at : (limits : Limits) (depth : ℕ) → Reads class (constant_at limits depth) constant_shape
reads_constant_at limits depth = reads_labelled (reads_constant_core (holder_core limits depth) (reads_labelled (reads_holder limits depth)))

pub reads_typed_at : (limits : Limits) (depth : ℕ) → Reads class (typed_at limits depth) type_shape
reads_typed_at limits depth = reads_labelled (reads_typed_core limits (constant_core (holder_row limits depth)) (reads_constant_at limits depth))

pub reads_constant : (limits : Limits) → Reads class (constant_row limits) constant_shape
reads_constant limits = reads_constant_at limits limits.nesting

pub reads_typed_constant : (limits : Limits) → Reads class (typed_constant_row limits) type_shape
reads_typed_constant limits = reads_typed_at limits limits.nesting

reads_local : Reads class (mapped LocalValue local_row) (mapped LocalValue local_row).shape
reads_local = reads_mapped class LocalValue (reads_one class _ _)

reads_value_core : (limits : Limits) → Reads class (value_core limits) value_shape
unfolding value_core
reads_value_core limits = reads_alt class reads_local (reads_mapped class _ (reads_constant limits)) refl refl

pub reads_value : (limits : Limits) → Reads class (value_row limits) value_shape
reads_value limits = reads_labelled (reads_value_core limits)

reads_typed_value_core : (limits : Limits) → Reads class (typed_value_core limits) type_shape
unfolding typed_value_core
reads_typed_value_core limits = reads_pair class (reads_type limits) (reads_value limits) refl

pub reads_typed_value : (limits : Limits) → Reads class (typed_value_row limits) type_shape
reads_typed_value limits = reads_labelled (reads_typed_value_core limits)
