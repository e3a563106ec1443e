-- The integer types in the constants and values of a text have 1 to 128 bits.
use Rattle.std.proofs.Common.{ℕ, zero, suc, List, [], ◌∷◌}
use Rattle.ir_base.specs.declared.place.Place.{Place}
use Rattle.ir_lexer.specs.Ahead.{Located}
use Rattle.ir_tables.specs.declared.opcode.Opcode.{Opcode}
use Rattle.ir_tables.specs.declared.opcode.Opcode.TheVariants as op
use Rattle.ir_terminals.specs.PhraseRows.Row.{Row, keep_second}
use Rattle.ir_terminals.specs.declared.limits.Limits.{Limits}
use Rattle.ir_terminals.specs.declared.terminal.Terminal.TheVariants as terminal
use Rattle.ir_terminals.specs.Role.{class}
use Rattle.ir_terminals.specs.Tokens.{word, integer_row, global_name_row, byte_string_row, local_row}
use Rattle.ir_terminals.specs.Values.{opcode_in}
use Rattle.ir_phrases.specs.Constants.Placed.{token_with_place}
use Rattle.ir_phrases.specs.Constants.Flags.{flags_row}
use Rattle.ir_phrases.specs.Constants.Tree.{ConstantTree, TypedConstantTree, constants, LocalValue, ConstantValue}
use Rattle.ir_phrases.specs.Constants.Types.{type_shape, list_shape}
use Rattle.ir_phrases.specs.Constants.Constants.{simple_classes, simple_word, expression_classes, holder_shape, constant_shape, expression_shape, typed_core, typed_over, elements_core, elements_row, array_constant_row, struct_constant_row, packed_constant_row, operands_shape, operands_core, operands_row, element_address_row, conversion_row, arithmetic_row, expression_by, expression_core, expression_row, holder_step, constant_core, constant_over, holder_core, holder_row, constant_at, constant_row, typed_constant_row}
use Rattle.ir_phrases.specs.Constants.Values.{value_shape, value_core, value_row, typed_value_core, typed_value_row}
use Rattle.ir_phrases.specs.Constants.Forms.{AllAre}
use Rattle.ir_phrases.proofs.OnConstants.Gives.{Gives, gives_any, gives_fail, gives_mapped, gives_chain, gives_both, gives_second, gives_before, gives_pair, gives_alt, gives_many, gives_separated, gives_labelled}
use Rattle.item_build.specs.Buildable.Narrow.{IsNarrowConstant, AreNarrowConstants, IsNarrowTyped, IsNarrowValue, IsNarrowOperand}
use Rattle.ir_resolve.proofs.OnReadsNarrow.Types.{gives_type}

all_narrow : (cs : List TypedConstantTree) → AllAre IsNarrowTyped cs → AreNarrowConstants (constants cs)
all_narrow [] h = tt
all_narrow (c ∷ cs) h = (h.0, all_narrow cs h.1)

-- rows over any row of constants with their types
module _ (limits : Limits) (typed : Row Located TypedConstantTree) (h : Gives typed IsNarrowTyped) where
  gives_elements_core : Gives (elements_core typed) (AllAre IsNarrowTyped)
  unfolding elements_core
  gives_elements_core = gives_separated class (word terminal.Comma) h

  gives_elements : Gives (elements_row typed) (AllAre IsNarrowTyped)
  gives_elements = gives_labelled list_shape gives_elements_core

  gives_array_constant : Gives (array_constant_row typed) IsNarrowConstant
  gives_array_constant =
      gives_mapped _ IsNarrowConstant (gives_pair (gives_any (word terminal.OpenBracket)) (gives_before (word terminal.CloseBracket) gives_elements)) (λ v x. all_narrow v.1 x.1)

  gives_struct_constant : Gives (struct_constant_row typed) IsNarrowConstant
  gives_struct_constant =
      gives_mapped _ IsNarrowConstant (gives_pair (gives_any (word terminal.OpenBrace)) (gives_before (word terminal.CloseBrace) gives_elements)) (λ v x. all_narrow v.1 x.1)

  gives_packed_constant : Gives (packed_constant_row typed) IsNarrowConstant
  gives_packed_constant =
      gives_mapped _ IsNarrowConstant
      (gives_pair (gives_any (word terminal.Less)) (gives_second (word terminal.OpenBrace) (gives_before (keep_second (word terminal.CloseBrace) (word terminal.Greater)) gives_elements)))
      (λ v x. all_narrow v.1 x.1)

  gives_operands_core : Gives (operands_core typed) (AllAre IsNarrowTyped)
  unfolding operands_core
  gives_operands_core = gives_both (λ c cs. c ∷ cs) (AllAre IsNarrowTyped) h (gives_many class (gives_second (word terminal.Comma) h)) (λ c cs x xs. (x, xs))

  gives_operands : Gives (operands_row typed) (AllAre IsNarrowTyped)
  gives_operands = gives_labelled operands_shape gives_operands_core

  gives_element_address : (place : Place) → Gives (element_address_row limits typed place) IsNarrowConstant
  gives_element_address place =
      gives_mapped _ IsNarrowConstant
      (gives_pair (gives_any (flags_row op.GetElementPtr))
      (gives_second (word terminal.OpenParenthesis)
      (gives_pair (gives_before (word terminal.Comma) (gives_type limits)) (gives_before (word terminal.CloseParenthesis) gives_operands))))
      (λ v x. (x.1.0, all_narrow v.1.1 x.1.1))

  gives_conversion : (place : Place) (opcode : Opcode) → Gives (conversion_row limits typed place opcode) IsNarrowConstant
  gives_conversion place opcode =
      gives_mapped _ IsNarrowConstant
      (gives_second (word terminal.OpenParenthesis)
      (gives_pair (gives_before (word terminal.To) h) (gives_before (word terminal.CloseParenthesis) (gives_type limits))))
      (λ v x. x)

  gives_arithmetic : (place : Place) (opcode : Opcode) → Gives (arithmetic_row typed place opcode) IsNarrowConstant
  gives_arithmetic place opcode =
      gives_mapped _ IsNarrowConstant
      (gives_pair (gives_any (flags_row opcode))
      (gives_second (word terminal.OpenParenthesis)
      (gives_pair (gives_before (word terminal.Comma) h) (gives_before (word terminal.CloseParenthesis) h))))
      (λ v x. x.1)

  gives_expression_by : (place : Place) (opcode : Opcode) → Gives (expression_by limits typed place opcode) IsNarrowConstant
  gives_expression_by place op.GetElementPtr = gives_element_address place
  gives_expression_by place op.PtrToInt = gives_conversion place op.PtrToInt
  gives_expression_by place op.IntToPtr = gives_conversion place op.IntToPtr
  gives_expression_by place op.Trunc = gives_conversion place op.Trunc
  gives_expression_by place op.Add = gives_arithmetic place op.Add
  gives_expression_by place op.Sub = gives_arithmetic place op.Sub
  gives_expression_by place op.Xor = gives_arithmetic place op.Xor
  gives_expression_by place _ = gives_fail expression_shape IsNarrowConstant

  gives_expression_core : (v : Opcode × Place) → Gives (expression_core limits typed v) IsNarrowConstant
  unfolding expression_core
  gives_expression_core v = gives_expression_by v.1 v.0

  gives_expression : Gives (expression_row limits typed) IsNarrowConstant
  gives_expression =
      gives_chain expression_shape IsNarrowConstant (gives_any (token_with_place expression_classes opcode_in)) (λ v x. gives_labelled expression_shape (gives_expression_core v))

  gives_holder_step : Gives (holder_step limits typed) IsNarrowConstant
  gives_holder_step = gives_alt class gives_array_constant (gives_alt class gives_struct_constant (gives_alt class gives_packed_constant gives_expression))

gives_typed_core : (limits : Limits) (c : Row Located ConstantTree) → Gives c IsNarrowConstant → Gives (typed_core limits c) IsNarrowTyped
unfolding typed_core
gives_typed_core limits c h = gives_pair (gives_type limits) h

gives_constant_core : (holder : Row Located ConstantTree) → Gives holder IsNarrowConstant → Gives (constant_core holder) IsNarrowConstant
unfolding constant_core
gives_constant_core holder h =
    gives_alt class (gives_mapped _ IsNarrowConstant (gives_any integer_row) (λ v x. tt))
    (gives_alt class (gives_mapped _ IsNarrowConstant (gives_any global_name_row) (λ v x. tt))
    (gives_alt class (gives_mapped _ IsNarrowConstant (gives_any byte_string_row) (λ v x. tt))
    (gives_alt class (gives_mapped _ IsNarrowConstant (gives_any (token_with_place simple_classes simple_word)) (λ v x. tt)) h)))

gives_holder : (limits : Limits) (depth : ℕ) → Gives (holder_core limits depth) IsNarrowConstant
unfolding holder_core
gives_holder limits zero = gives_fail holder_shape IsNarrowConstant
gives_holder limits (suc n) =
    gives_holder_step limits (typed_over limits (constant_over (holder_row limits n)))
    (gives_labelled type_shape (gives_typed_core limits (constant_over (holder_row limits n))
    (gives_labelled constant_shape (gives_constant_core (holder_row limits n) (gives_labelled holder_shape (gives_holder limits n))))))

gives_constant_at : (limits : Limits) (depth : ℕ) → Gives (constant_at limits depth) IsNarrowConstant
gives_constant_at limits depth = gives_labelled constant_shape (gives_constant_core (holder_row limits depth) (gives_labelled holder_shape (gives_holder limits depth)))

module _ (limits : Limits) where
  pub gives_constant : Gives (constant_row limits) IsNarrowConstant
  gives_constant = gives_constant_at limits limits.nesting

  pub gives_typed_constant : Gives (typed_constant_row limits) IsNarrowTyped
  gives_typed_constant = gives_labelled type_shape (gives_typed_core limits (constant_at limits limits.nesting) gives_constant)

  gives_value_core : Gives (value_core limits) IsNarrowValue
  unfolding value_core
  gives_value_core =
      gives_alt class (gives_mapped LocalValue IsNarrowValue (gives_any local_row) (λ v x. tt)) (gives_mapped ConstantValue IsNarrowValue gives_constant (λ v x. x))

  pub gives_value : Gives (value_row limits) IsNarrowValue
  gives_value = gives_labelled value_shape gives_value_core

  gives_typed_value_core : Gives (typed_value_core limits) IsNarrowOperand
  unfolding typed_value_core
  gives_typed_value_core = gives_pair (gives_type limits) gives_value

  pub gives_typed_value : Gives (typed_value_row limits) IsNarrowOperand
  gives_typed_value = gives_labelled type_shape gives_typed_value_core
