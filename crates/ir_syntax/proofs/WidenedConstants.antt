-- The rows of types, constants and values, within limits that are wider.
use Rattle.std.proofs.Common.{◌≡◌, ℕ, zero, suc, Bool, true, refl}
use Rattle.ir_lexer.specs.Ahead.{Located}
use Rattle.ir_base.specs.declared.place.Place.{Place}
use Rattle.ir_tables.specs.declared.opcode.Opcode.{Opcode}
use Rattle.ir_tables.specs.declared.opcode.Opcode.TheVariants as op
use Rattle.ir_terminals.specs.PhraseRows.Row.{Row, among, fail, mapped}
use Rattle.ir_terminals.proofs.OnPhraseRows.ListParts.{among_left}
use Rattle.ir_terminals.specs.declared.limits.Limits.{Limits}
use Rattle.ir_terminals.specs.declared.terminal.Terminal.{Terminal}
use Rattle.ir_terminals.specs.declared.terminal.Terminal.TheVariants as terminal
use Rattle.ir_terminals.specs.Role.{class}
use Rattle.ir_terminals.specs.Tokens.{word, integer_row, local_row, named_local_row}
use Rattle.ir_phrases.specs.Constants.Tree.{TypeTree, ConstantTree, TypedConstantTree, LocalValue}
use Rattle.ir_terminals.specs.Values.{opcode_in}
use Rattle.ir_phrases.specs.Constants.Placed.{token_with_place}
use Rattle.ir_phrases.specs.Constants.Flags.{flags_row}
use Rattle.ir_phrases.specs.Constants.Types.{nest_shape, int_row, ptr_row, void_row, named_row, array_row, types_core, types_row, struct_row, packed_row, nest_step, value_type_core, value_type_over, type_core, type_over, nest_core, nest_row, type_at, type_row, value_type_row, fields_core, fields_row}
use Rattle.ir_phrases.specs.Constants.Constants.{holder_shape, expression_classes, expression_shape, integer_constant_row, address_row, bytes_row, simple_row, typed_core, typed_over, elements_core, elements_row, array_constant_row, struct_constant_row, packed_constant_row, operands_core, operands_row, element_address_row, conversion_row, arithmetic_row, expression_by, expression_core, expression_row, holder_step, constant_core, constant_over, holder_core, constant_at, constant_row, typed_constant_row}
use Rattle.ir_phrases.specs.Constants.Values.{value_core, value_row, typed_value_core, typed_value_row}
use Rattle.ir_phrases.proofs.OnConstants.Grammar.{reads_nest, reads_holder}
use Rattle.ir_syntax.proofs.Widened.{IsWidened, widened_same, widened_fail, widened_labelled, widened_alt, widened_chain, widened_mapped, widened_second, widened_both, widened_before, widened_pair, widened_many, widened_separated}

-- as deep, or deeper where what begins a type or a constant that holds others is among these tokens
abbrev pub IsDeeper : (Located → Bool) → ℕ → ℕ → Type 0
IsDeeper may zero zero = Unit {0}
IsDeeper may zero (suc more) = (t : Located) → among (class t) holder_shape.first ≡ true → may t ≡ true
IsDeeper may (suc fewer) zero = ⊥
IsDeeper may (suc fewer) (suc more) = IsDeeper may fewer more

pub as_deep : (may : Located → Bool) (n : ℕ) → IsDeeper may n n
as_deep may zero = tt
as_deep may (suc n) = as_deep may n

pub one_deeper : (may : Located → Bool) → ((t : Located) → among (class t) holder_shape.first ≡ true → may t ≡ true) → (n : ℕ) → IsDeeper may n (suc n)
one_deeper may opens zero = opens
one_deeper may opens (suc n) = one_deeper may opens n

-- the token of a terminal
pub widened_word : {may : Located → Bool} (wanted : Terminal) → IsWidened may (word wanted) (word wanted)
widened_word wanted = widened_same (word wanted)

-- rows over a row of types
module _ {may : Located → Bool} {t u : Row Located TypeTree} (h : IsWidened may t u) where
  widened_array : IsWidened may (array_row t) (array_row u)
  widened_array =
      widened_mapped
      (widened_pair (widened_word terminal.OpenBracket)
      (widened_pair (widened_same integer_row)
      (widened_second (widened_word terminal.X)
      (widened_before h (widened_word terminal.CloseBracket)))))

  module _ (same : u.shape ≡ t.shape) where
    widened_types_core : IsWidened may (types_core t) (types_core u)
    unfolding types_core
    widened_types_core = widened_separated class (word terminal.Comma) h same

    widened_types : IsWidened may (types_row t) (types_row u)
    widened_types = widened_labelled widened_types_core

    widened_struct : IsWidened may (struct_row t) (struct_row u)
    widened_struct = widened_mapped (widened_pair (widened_word terminal.OpenBrace) (widened_before widened_types (widened_word terminal.CloseBrace)))

    widened_packed : IsWidened may (packed_row t) (packed_row u)
    widened_packed =
        widened_mapped
        (widened_pair (widened_word terminal.Less)
        (widened_second (widened_word terminal.OpenBrace)
        (widened_before widened_types
        (widened_second (widened_word terminal.CloseBrace) (widened_word terminal.Greater)))))

    widened_nest_step : IsWidened may (nest_step t) (nest_step u)
    widened_nest_step = widened_alt class widened_array (widened_alt class widened_struct widened_packed refl) refl

-- rows of types
module _ {may : Located → Bool} (narrow wide : Limits) (names : IsWidened may (named_local_row narrow) (named_local_row wide)) where
  widened_named : IsWidened may (named_row narrow) (named_row wide)
  widened_named = widened_mapped names

  widened_value_type_core : {t u : Row Located TypeTree} → IsWidened may t u → u.shape ≡ t.shape → IsWidened may (value_type_core narrow t) (value_type_core wide u)
  unfolding value_type_core
  widened_value_type_core h same =
      widened_alt class (widened_same int_row) (widened_alt class (widened_same ptr_row) (widened_alt class widened_named h refl) refl) refl

  widened_value_type_over : {t u : Row Located TypeTree} → IsWidened may t u → u.shape ≡ t.shape → IsWidened may (value_type_over narrow t) (value_type_over wide u)
  widened_value_type_over h same = widened_labelled (widened_value_type_core h same)

  widened_type_core : {t u : Row Located TypeTree} → IsWidened may t u → u.shape ≡ t.shape → IsWidened may (type_core narrow t) (type_core wide u)
  unfolding type_core
  widened_type_core h same = widened_alt class (widened_same void_row) (widened_value_type_over h same) refl

  widened_type_over : {t u : Row Located TypeTree} → IsWidened may t u → u.shape ≡ t.shape → IsWidened may (type_over narrow t) (type_over wide u)
  widened_type_over h same = widened_labelled (widened_type_core h same)

  widened_nest_core : (n m : ℕ) → IsDeeper may n m → IsWidened may (nest_core narrow n) (nest_core wide m)
  unfolding nest_core
  widened_nest_core zero zero d = widened_same (fail nest_shape)
  widened_nest_core zero (suc m) d = widened_fail class nest_shape (reads_nest wide (suc m)) refl (λ t b. d t (among_left (class t) nest_shape.first expression_classes b))
  widened_nest_core (suc n) zero d = absurd d
  widened_nest_core (suc n) (suc m) d = widened_nest_step (widened_type_over (widened_labelled (widened_nest_core n m d)) refl) refl

  widened_nest : (n m : ℕ) → IsDeeper may n m → IsWidened may (nest_row narrow n) (nest_row wide m)
  widened_nest n m d = widened_labelled (widened_nest_core n m d)

  widened_type_at : (n m : ℕ) → IsDeeper may n m → IsWidened may (type_at narrow n) (type_at wide m)
  widened_type_at n m d = widened_type_over (widened_nest n m d) refl

  widened_fields_core : (n m : ℕ) → IsDeeper may n m → (n ≡ 0 → ⊥) → IsWidened may (fields_core narrow n) (fields_core wide m)
  unfolding fields_core
  widened_fields_core zero m d some = absurd (some refl)
  widened_fields_core (suc n) zero d some = absurd d
  widened_fields_core (suc n) (suc m) d some = widened_types (widened_type_at n m d) refl

-- rows over a row of constants with their types
module _ {may : Located → Bool} {c d : Row Located TypedConstantTree} (h : IsWidened may c d) where
  module _ (same : d.shape ≡ c.shape) where
    widened_elements_core : IsWidened may (elements_core c) (elements_core d)
    unfolding elements_core
    widened_elements_core = widened_separated class (word terminal.Comma) h same

    widened_elements : IsWidened may (elements_row c) (elements_row d)
    widened_elements = widened_labelled widened_elements_core

    widened_array_constant : IsWidened may (array_constant_row c) (array_constant_row d)
    widened_array_constant = widened_mapped (widened_pair (widened_word terminal.OpenBracket) (widened_before widened_elements (widened_word terminal.CloseBracket)))

    widened_struct_constant : IsWidened may (struct_constant_row c) (struct_constant_row d)
    widened_struct_constant = widened_mapped (widened_pair (widened_word terminal.OpenBrace) (widened_before widened_elements (widened_word terminal.CloseBrace)))

    widened_packed_constant : IsWidened may (packed_constant_row c) (packed_constant_row d)
    widened_packed_constant =
        widened_mapped
        (widened_pair (widened_word terminal.Less)
        (widened_second (widened_word terminal.OpenBrace)
        (widened_before widened_elements
        (widened_second (widened_word terminal.CloseBrace) (widened_word terminal.Greater)))))

  widened_operands_core : IsWidened may (operands_core c) (operands_core d)
  unfolding operands_core
  widened_operands_core = widened_both h (widened_many class (widened_second (widened_word terminal.Comma) h) refl)

  widened_operands : IsWidened may (operands_row c) (operands_row d)
  widened_operands = widened_labelled widened_operands_core

  widened_arithmetic : (place : Place) (opcode : Opcode) → IsWidened may (arithmetic_row c place opcode) (arithmetic_row d place opcode)
  widened_arithmetic place opcode =
      widened_mapped
      (widened_pair (widened_same (flags_row opcode))
      (widened_second (widened_word terminal.OpenParenthesis)
      (widened_pair (widened_before h (widened_word terminal.Comma)) (widened_before h (widened_word terminal.CloseParenthesis)))))

  module _ (narrow wide : Limits) (types : IsWidened may (type_row narrow) (type_row wide)) where
    widened_address : (place : Place) → IsWidened may (element_address_row narrow c place) (element_address_row wide d place)
    widened_address place =
        widened_mapped
        (widened_pair (widened_same (flags_row op.GetElementPtr))
        (widened_second (widened_word terminal.OpenParenthesis)
        (widened_pair (widened_before types (widened_word terminal.Comma)) (widened_before widened_operands (widened_word terminal.CloseParenthesis)))))

    widened_conversion : (place : Place) (opcode : Opcode) → IsWidened may (conversion_row narrow c place opcode) (conversion_row wide d place opcode)
    widened_conversion place opcode =
        widened_mapped
        (widened_second (widened_word terminal.OpenParenthesis)
        (widened_pair (widened_before h (widened_word terminal.To)) (widened_before types (widened_word terminal.CloseParenthesis))))

    widened_expression_by : (place : Place) (opcode : Opcode) → IsWidened may (expression_by narrow c place opcode) (expression_by wide d place opcode)
    widened_expression_by place op.GetElementPtr = widened_address place
    widened_expression_by place op.PtrToInt = widened_conversion place op.PtrToInt
    widened_expression_by place op.IntToPtr = widened_conversion place op.IntToPtr
    widened_expression_by place op.Trunc = widened_conversion place op.Trunc
    widened_expression_by place op.Add = widened_arithmetic place op.Add
    widened_expression_by place op.Sub = widened_arithmetic place op.Sub
    widened_expression_by place op.Xor = widened_arithmetic place op.Xor
    widened_expression_by place _ = widened_same (fail expression_shape)

    widened_expression_core : (v : Opcode × Place) → IsWidened may (expression_core narrow c v) (expression_core wide d v)
    unfolding expression_core
    widened_expression_core v = widened_expression_by v.1 v.0

    widened_expression : IsWidened may (expression_row narrow c) (expression_row wide d)
    widened_expression = widened_chain expression_shape expression_shape (widened_same (token_with_place expression_classes opcode_in)) (λ v. widened_labelled {s = expression_shape} (widened_expression_core v))

    widened_holder_step : d.shape ≡ c.shape → IsWidened may (holder_step narrow c) (holder_step wide d)
    widened_holder_step same =
        widened_alt class (widened_array_constant same) (widened_alt class (widened_struct_constant same) (widened_alt class (widened_packed_constant same) widened_expression refl) refl) refl

widened_constant_core : {may : Located → Bool} {c d : Row Located ConstantTree} → IsWidened may c d → IsWidened may (constant_core c) (constant_core d)
unfolding constant_core
widened_constant_core h =
    widened_alt class (widened_same integer_constant_row)
    (widened_alt class (widened_same address_row)
    (widened_alt class (widened_same bytes_row)
    (widened_alt class (widened_same simple_row) h refl) refl) refl) refl

widened_constant_over : {may : Located → Bool} {c d : Row Located ConstantTree} → IsWidened may c d → IsWidened may (constant_over c) (constant_over d)
widened_constant_over h = widened_labelled (widened_constant_core h)

-- rows of constants
module _ {may : Located → Bool} (narrow wide : Limits) (types : IsWidened may (type_row narrow) (type_row wide)) where
  widened_typed_core : {c d : Row Located ConstantTree} → IsWidened may c d → IsWidened may (typed_core narrow c) (typed_core wide d)
  unfolding typed_core
  widened_typed_core h = widened_pair types h

  widened_typed_over : {c d : Row Located ConstantTree} → IsWidened may c d → IsWidened may (typed_over narrow c) (typed_over wide d)
  widened_typed_over h = widened_labelled (widened_typed_core h)

  widened_holder_core : (n m : ℕ) → IsDeeper may n m → IsWidened may (holder_core narrow n) (holder_core wide m)
  unfolding holder_core
  widened_holder_core zero zero d = widened_same (fail holder_shape)
  widened_holder_core zero (suc m) d = widened_fail class holder_shape (reads_holder wide (suc m)) refl d
  widened_holder_core (suc n) zero d = absurd d
  widened_holder_core (suc n) (suc m) d =
      widened_holder_step (widened_typed_over (widened_constant_over (widened_labelled (widened_holder_core n m d)))) narrow wide types refl

  widened_constant_at : (n m : ℕ) → IsDeeper may n m → IsWidened may (constant_at narrow n) (constant_at wide m)
  widened_constant_at n m d = widened_constant_over (widened_labelled (widened_holder_core n m d))

-- limits with as many names, and as many nests of which there is one at least, or more
pub record IsWider (may : Located → Bool) (narrow wide : Limits) : Type 0 where
  pub names : IsWidened may (named_local_row narrow) (named_local_row wide)
  pub nests : IsDeeper may narrow.nesting wide.nesting
  pub some : narrow.nesting ≡ 0 → ⊥

module _ {may : Located → Bool} {narrow wide : Limits} (wider : IsWider may narrow wide) where
  pub widened_type : IsWidened may (type_row narrow) (type_row wide)
  widened_type = widened_type_at narrow wide wider.names narrow.nesting wide.nesting wider.nests

  pub widened_value_type : IsWidened may (value_type_row narrow) (value_type_row wide)
  widened_value_type = widened_value_type_over narrow wide wider.names (widened_nest narrow wide wider.names narrow.nesting wide.nesting wider.nests) refl

  pub widened_fields : IsWidened may (fields_row narrow) (fields_row wide)
  widened_fields = widened_labelled (widened_fields_core narrow wide wider.names narrow.nesting wide.nesting wider.nests wider.some)

  pub widened_constant : IsWidened may (constant_row narrow) (constant_row wide)
  widened_constant = widened_constant_at narrow wide widened_type narrow.nesting wide.nesting wider.nests

  pub widened_typed_constant : IsWidened may (typed_constant_row narrow) (typed_constant_row wide)
  widened_typed_constant = widened_typed_over narrow wide widened_type widened_constant

  widened_value_core : IsWidened may (value_core narrow) (value_core wide)
  unfolding value_core
  widened_value_core = widened_alt class (widened_same (mapped LocalValue local_row)) (widened_mapped widened_constant) refl

  pub widened_value : IsWidened may (value_row narrow) (value_row wide)
  widened_value = widened_labelled widened_value_core

  widened_typed_value_core : IsWidened may (typed_value_core narrow) (typed_value_core wide)
  unfolding typed_value_core
  widened_typed_value_core = widened_pair widened_type widened_value

  pub widened_typed_value : IsWidened may (typed_value_row narrow) (typed_value_row wide)
  widened_typed_value = widened_labelled widened_typed_value_core
