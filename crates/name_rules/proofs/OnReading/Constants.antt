-- The constants of a text: widths, bytes, and how deep they nest.
use Rattle.std.proofs.Common.{ℕ, zero, suc, ◌+◌, ◌≤◌, max, List, [], ◌∷◌, arith}
use Rattle.ir_base.specs.declared.place.Place.{Place}
use Rattle.ir_lexer.specs.Ahead.{Located}
use Rattle.ir_tables.specs.declared.opcode.Opcode.{Opcode}
use Rattle.ir_tables.specs.declared.opcode.Opcode.TheVariants as op
use Rattle.ir_terminals.specs.PhraseRows.Row.{Row, keep_second}
use Rattle.ir_terminals.specs.declared.limits.Limits.{Limits}
use Rattle.ir_terminals.specs.declared.terminal.Terminal.TheVariants as terminal
use Rattle.ir_terminals.specs.Role.{class}
use Rattle.ir_terminals.specs.Terminal.{code}
use Rattle.ir_terminals.specs.Tokens.{word, integer_row, global_name_row, local_row}
use Rattle.ir_terminals.specs.Values.{opcode_in, bytes_of}
use Rattle.ir_phrases.specs.Constants.Placed.{token_with_place}
use Rattle.ir_phrases.specs.Constants.Flags.{flags_row}
use Rattle.ir_phrases.specs.Constants.Tree.{ConstantTree, IntegerConstant, SimpleConstant, AddressConstant, BytesConstant, ListConstant, ElementAddress, Conversion, Arithmetic, ConstantTrees, no_constants, more_constants, TypedConstantTree, constants, ValueTree, LocalValue, ConstantValue, TypedValueTree}
use Rattle.ir_phrases.specs.Constants.Types.{type_shape, list_shape}
use Rattle.ir_phrases.specs.Constants.Constants.{simple_classes, simple_word, expression_classes, holder_shape, constant_shape, expression_shape, typed_core, typed_over, elements_core, elements_row, array_constant_row, struct_constant_row, packed_constant_row, operands_shape, operands_core, operands_row, element_address_row, conversion_row, arithmetic_row, expression_by, expression_core, expression_row, holder_step, constant_core, constant_over, holder_core, holder_row, constant_at, constant_row, typed_constant_row}
use Rattle.ir_phrases.specs.Constants.Values.{value_shape, value_core, value_row, typed_value_core, typed_value_row}
use Rattle.ir_phrases.specs.Constants.Forms.{AllAre}
use Rattle.name_rules.proofs.OnReading.Given.{AreBytes, Given, given_any, given_fail, given_one, given_mapped, given_chain, given_both, given_second, given_before, given_pair, given_alt, given_many, given_separated, given_labelled}
use Rattle.name_rules.proofs.OnReading.Spellings.{byte_string_well}
use Rattle.name_rules.proofs.OnReading.Types.{HasWidths, given_type}

abbrev mutual
  -- integer types have 1 to 128 bits, and byte strings are bytes
  pub IsSound : ConstantTree → Type 0
  IsSound (IntegerConstant written) = Unit {0}
  IsSound (SimpleConstant word place) = Unit {0}
  IsSound (AddressConstant name) = Unit {0}
  IsSound (BytesConstant text) = AreBytes text.text
  IsSound (ListConstant place round elements) = AreSound elements
  IsSound (ElementAddress place flags source operands) = HasWidths source × AreSound operands
  IsSound (Conversion place opcode from value to) = HasWidths from × IsSound value × HasWidths to
  IsSound (Arithmetic place opcode flags left_type left right_type right) = HasWidths left_type × IsSound left × HasWidths right_type × IsSound right

  pub AreSound : ConstantTrees → Type 0
  AreSound no_constants = Unit {0}
  AreSound (more_constants t c cs) = HasWidths t × IsSound c × AreSound cs

abbrev mutual
  -- how deep a constant nests
  pub depth_of : ConstantTree → ℕ
  depth_of (IntegerConstant written) = 0
  depth_of (SimpleConstant word place) = 0
  depth_of (AddressConstant name) = 0
  depth_of (BytesConstant text) = 0
  depth_of (ListConstant place round elements) = greatest_of elements + 1
  depth_of (ElementAddress place flags source operands) = greatest_of operands + 1
  depth_of (Conversion place opcode from value to) = depth_of value + 1
  depth_of (Arithmetic place opcode flags left_type left right_type right) = max (depth_of left) (depth_of right) + 1

  pub greatest_of : ConstantTrees → ℕ
  greatest_of no_constants = 0
  greatest_of (more_constants t c cs) = max (depth_of c) (greatest_of cs)

-- sound, and nested no more than so deep
abbrev pub IsWell : ℕ → ConstantTree → Type 0
IsWell depth c = IsSound c × (depth_of c ≤ depth)

abbrev pub IsTypedWell : ℕ → TypedConstantTree → Type 0
IsTypedWell depth typed = HasWidths typed.0 × IsWell depth typed.1

max_below : (a b n : ℕ) → a ≤ n → b ≤ n → max a b ≤ n
max_below a b n h k = omega arith

one_deeper : (a n : ℕ) → a ≤ n → a + 1 ≤ suc n
one_deeper a n h = omega arith

all_well : (depth : ℕ) (cs : List TypedConstantTree) → AllAre (IsTypedWell depth) cs → AreSound (constants cs) × (greatest_of (constants cs) ≤ depth)
all_well depth [] h = (tt, omega arith)
all_well depth (c ∷ cs) h =
    let rest = all_well depth cs h.1 in
    ((h.0.0, h.0.1.0, rest.0), max_below (depth_of c.1) (greatest_of (constants cs)) depth h.0.1.1 rest.1)

-- rows over any row of constants with their types
module _ (limits : Limits) (depth : ℕ) (typed : Row Located TypedConstantTree) (h : Given typed (IsTypedWell depth)) where
  given_elements_core : Given (elements_core typed) (AllAre (IsTypedWell depth))
  unfolding elements_core
  given_elements_core = given_separated class (word terminal.Comma) h

  given_elements : Given (elements_row typed) (AllAre (IsTypedWell depth))
  given_elements = given_labelled list_shape given_elements_core

  listed : (cs : List TypedConstantTree) → AllAre (IsTypedWell depth) cs → AreSound (constants cs) × (greatest_of (constants cs) + 1 ≤ suc depth)
  listed cs x = let all = all_well depth cs x in (all.0, one_deeper (greatest_of (constants cs)) depth all.1)

  given_array_constant : Given (array_constant_row typed) (IsWell (suc depth))
  given_array_constant =
      given_mapped _ (IsWell (suc depth)) (given_pair (given_any (word terminal.OpenBracket)) (given_before (word terminal.CloseBracket) given_elements)) (λ v x. listed v.1 x.1)

  given_struct_constant : Given (struct_constant_row typed) (IsWell (suc depth))
  given_struct_constant =
      given_mapped _ (IsWell (suc depth)) (given_pair (given_any (word terminal.OpenBrace)) (given_before (word terminal.CloseBrace) given_elements)) (λ v x. listed v.1 x.1)

  given_packed_constant : Given (packed_constant_row typed) (IsWell (suc depth))
  given_packed_constant =
      given_mapped _ (IsWell (suc depth))
      (given_pair (given_any (word terminal.Less)) (given_second (word terminal.OpenBrace) (given_before (keep_second (word terminal.CloseBrace) (word terminal.Greater)) given_elements)))
      (λ v x. listed v.1 x.1)

  given_operands_core : Given (operands_core typed) (AllAre (IsTypedWell depth))
  unfolding operands_core
  given_operands_core = given_both (λ c cs. c ∷ cs) (AllAre (IsTypedWell depth)) h (given_many class (given_second (word terminal.Comma) h)) (λ c cs x xs. (x, xs))

  given_operands : Given (operands_row typed) (AllAre (IsTypedWell depth))
  given_operands = given_labelled operands_shape given_operands_core

  given_element_address : (place : Place) → Given (element_address_row limits typed place) (IsWell (suc depth))
  given_element_address place =
      given_mapped _ (IsWell (suc depth))
      (given_pair (given_any (flags_row op.GetElementPtr))
      (given_second (word terminal.OpenParenthesis)
      (given_pair (given_before (word terminal.Comma) (given_type limits)) (given_before (word terminal.CloseParenthesis) given_operands))))
      (λ v x. let all = listed v.1.1 x.1.1 in ((x.1.0, all.0), all.1))

  given_conversion : (place : Place) (opcode : Opcode) → Given (conversion_row limits typed place opcode) (IsWell (suc depth))
  given_conversion place opcode =
      given_mapped _ (IsWell (suc depth))
      (given_second (word terminal.OpenParenthesis)
      (given_pair (given_before (word terminal.To) h) (given_before (word terminal.CloseParenthesis) (given_type limits))))
      (λ v x. ((x.0.0, x.0.1.0, x.1), one_deeper (depth_of v.0.1) depth x.0.1.1))

  given_arithmetic : (place : Place) (opcode : Opcode) → Given (arithmetic_row typed place opcode) (IsWell (suc depth))
  given_arithmetic place opcode =
      given_mapped _ (IsWell (suc depth))
      (given_pair (given_any (flags_row opcode))
      (given_second (word terminal.OpenParenthesis)
      (given_pair (given_before (word terminal.Comma) h) (given_before (word terminal.CloseParenthesis) h))))
      (λ v x. ((x.1.0.0, x.1.0.1.0, x.1.1.0, x.1.1.1.0), one_deeper (max (depth_of v.1.0.1) (depth_of v.1.1.1)) depth (max_below (depth_of v.1.0.1) (depth_of v.1.1.1) depth x.1.0.1.1 x.1.1.1.1)))

  given_expression_by : (place : Place) (opcode : Opcode) → Given (expression_by limits typed place opcode) (IsWell (suc depth))
  given_expression_by place op.GetElementPtr = given_element_address place
  given_expression_by place op.PtrToInt = given_conversion place op.PtrToInt
  given_expression_by place op.IntToPtr = given_conversion place op.IntToPtr
  given_expression_by place op.Trunc = given_conversion place op.Trunc
  given_expression_by place op.Add = given_arithmetic place op.Add
  given_expression_by place op.Sub = given_arithmetic place op.Sub
  given_expression_by place op.Xor = given_arithmetic place op.Xor
  given_expression_by place _ = given_fail expression_shape (IsWell (suc depth))

  given_expression_core : (v : Opcode × Place) → Given (expression_core limits typed v) (IsWell (suc depth))
  unfolding expression_core
  given_expression_core v = given_expression_by v.1 v.0

  given_expression : Given (expression_row limits typed) (IsWell (suc depth))
  given_expression =
      given_chain expression_shape (IsWell (suc depth)) (given_any (token_with_place expression_classes opcode_in)) (λ v x. given_labelled expression_shape (given_expression_core v))

  given_holder_step : Given (holder_step limits typed) (IsWell (suc depth))
  given_holder_step = given_alt class given_array_constant (given_alt class given_struct_constant (given_alt class given_packed_constant given_expression))

given_typed_core : (limits : Limits) (depth : ℕ) (c : Row Located ConstantTree) → Given c (IsWell depth) → Given (typed_core limits c) (IsTypedWell depth)
unfolding typed_core
given_typed_core limits depth c h = given_pair (given_type limits) h

given_constant_core : (depth : ℕ) (holder : Row Located ConstantTree) → Given holder (IsWell depth) → Given (constant_core holder) (IsWell depth)
unfolding constant_core
given_constant_core depth holder h =
    given_alt class (given_mapped _ (IsWell depth) (given_any integer_row) (λ v x. (tt, omega arith)))
    (given_alt class (given_mapped _ (IsWell depth) (given_any global_name_row) (λ v x. (tt, omega arith)))
    (given_alt class
    (given_mapped BytesConstant (IsWell depth) (given_one class (code terminal.ByteString ∷ []) bytes_of (λ s. AreBytes s.text) byte_string_well) (λ v x. (x, omega arith)))
    (given_alt class (given_mapped _ (IsWell depth) (given_any (token_with_place simple_classes simple_word)) (λ v x. (tt, omega arith))) h)))

given_holder : (limits : Limits) (depth : ℕ) → Given (holder_core limits depth) (IsWell depth)
unfolding holder_core
given_holder limits zero = given_fail holder_shape (IsWell zero)
given_holder limits (suc n) =
    given_holder_step limits n (typed_over limits (constant_over (holder_row limits n)))
    (given_labelled type_shape (given_typed_core limits n (constant_over (holder_row limits n))
    (given_labelled constant_shape (given_constant_core n (holder_row limits n) (given_labelled holder_shape (given_holder limits n))))))

given_constant_at : (limits : Limits) (depth : ℕ) → Given (constant_at limits depth) (IsWell depth)
given_constant_at limits depth = given_labelled constant_shape (given_constant_core depth (holder_row limits depth) (given_labelled holder_shape (given_holder limits depth)))

module _ (limits : Limits) where
  abbrev pub IsValueWell : ValueTree → Type 0
  IsValueWell (LocalValue name) = Unit {0}
  IsValueWell (ConstantValue constant) = IsWell limits.nesting constant

  abbrev pub IsOperandWell : TypedValueTree → Type 0
  IsOperandWell typed = HasWidths typed.0 × IsValueWell typed.1

  pub given_constant : Given (constant_row limits) (IsWell limits.nesting)
  given_constant = given_constant_at limits limits.nesting

  pub given_typed_constant : Given (typed_constant_row limits) (IsTypedWell limits.nesting)
  given_typed_constant = given_labelled type_shape (given_typed_core limits limits.nesting (constant_at limits limits.nesting) given_constant)

  given_value_core : Given (value_core limits) IsValueWell
  unfolding value_core
  given_value_core =
      given_alt class (given_mapped LocalValue IsValueWell (given_any local_row) (λ v x. tt)) (given_mapped ConstantValue IsValueWell given_constant (λ v x. x))

  pub given_value : Given (value_row limits) IsValueWell
  given_value = given_labelled value_shape given_value_core

  given_typed_value_core : Given (typed_value_core limits) IsOperandWell
  unfolding typed_value_core
  given_typed_value_core = given_pair (given_type limits) given_value

  pub given_typed_value : Given (typed_value_row limits) IsOperandWell
  given_typed_value = given_labelled type_shape given_typed_value_core
