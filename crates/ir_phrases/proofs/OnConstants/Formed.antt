-- Constants and values of whole phrases have the opcodes, flags and parts of their phrases.
use Rattle.std.proofs.Common.{◌≡◌, ℕ, zero, suc, ◌≤◌, List, [], ◌∷◌, Bool, true, false, not, ◌&&◌, cond, Option, Some, None, refl, sym, subst, inl, inr, arith}
use Rattle.std.proofs.lemmas.Bool.{and_parts}
use Rattle.std.proofs.lemmas.Option.{same_Some}
use Rattle.ir_base.specs.declared.place.Place.{Place}
use Rattle.ir_lexer.specs.Ahead.{Located}
use Rattle.ir_tables.specs.declared.opcode.Opcode.{Opcode}
use Rattle.ir_tables.specs.declared.opcode.Opcode.TheVariants as op
use Rattle.ir_tables.specs.declared.flag.Flag.{Flag}
use Rattle.ir_tables.specs.declared.flag.Flag.TheVariants as flag
use Rattle.ir_tables.specs.Flags.{has_flag, flags_with}
use Rattle.ir_tables.specs.MayHave.{may_have}
use Rattle.ir_tables.proofs.FlagBits.{or_flag, or_flag_bound, has_flag-with}
use Rattle.ir_terminals.specs.PhraseRows.Row.{Row, keep_second, keep_first}
use Rattle.ir_terminals.specs.declared.limits.Limits.{Limits}
use Rattle.ir_terminals.specs.declared.terminal.Terminal.TheVariants as terminal
use Rattle.ir_terminals.specs.Role.{class}
use Rattle.ir_terminals.specs.Terminal.{flag_class}
use Rattle.ir_terminals.specs.Tokens.{word, integer_row, global_name_row, byte_string_row, local_row}
use Rattle.ir_terminals.specs.Values.{flag_of, opcode_in}
use Rattle.ir_phrases.specs.Constants.Placed.{token_with_place}
use Rattle.ir_phrases.specs.Constants.Tree.{ConstantTree, TypedConstantTree, constants, LocalValue, ConstantValue}
use Rattle.ir_phrases.specs.Constants.Types.{type_shape, list_shape, type_row}
use Rattle.ir_phrases.specs.Constants.Flags.{with_flag, flag_shape, flags_shape, flags_core, flags_row}
use Rattle.ir_phrases.specs.Constants.Constants.{simple_classes, simple_word, expression_classes, holder_shape, constant_shape, expression_shape, typed_core, typed_over, elements_core, elements_row, array_constant_row, struct_constant_row, packed_constant_row, operands_shape, operands_core, operands_row, element_address_row, conversion_row, arithmetic_row, expression_by, expression_core, expression_row, holder_step, constant_core, constant_over, holder_core, holder_row, constant_at, constant_row, typed_constant_row}
use Rattle.ir_phrases.specs.Constants.Values.{value_shape, value_core, value_row, typed_value_core, typed_value_row}
use Rattle.ir_phrases.specs.Constants.Forms.{AllAre, IsNotEmpty, AreFlagsOf, is_constant_cast, is_constant_binary, HasConstant, IsFormed, AreFormed, IsTypedFormed, IsValueFormed, IsOperandFormed}
use Rattle.ir_phrases.proofs.OnConstants.Gives.{Gives, gives_any, gives_weaker, gives_fail, gives_one, gives_mapped, gives_chain, gives_both, gives_second, gives_before, gives_pair, gives_alt, gives_many, gives_separated, gives_loop, gives_labelled}

no_flag : (f : Flag) → has_flag 0 f ≡ true → ⊥
no_flag flag.Nuw e = absurd cc
no_flag flag.Nsw e = absurd cc
no_flag flag.Exact e = absurd cc
no_flag flag.Disjoint e = absurd cc
no_flag flag.Nneg e = absurd cc
no_flag flag.Samesign e = absurd cc
no_flag flag.Inbounds e = absurd cc
no_flag flag.Nusw e = absurd cc
no_flag flag.Volatile e = absurd cc

no_flags : (opcode : Opcode) → AreFlagsOf opcode 0
no_flags opcode = record { bound = omega arith; each = λ f e. absurd (no_flag f e) }

one_more_flag : (opcode : Opcode) (set : ℕ) (f : Flag) → AreFlagsOf opcode set → may_have opcode f ≡ true → AreFlagsOf opcode (flags_with set f)
one_more_flag opcode set f h may = record {
  bound = subst (λ (n : ℕ). n ≤ 511) (or_flag set f) (or_flag_bound set f h.bound);
  each = λ g e. elim ((has_flag-with set f g).0 e) [ inl x ↦ h.each g x | inr same ↦ subst (λ (k : Flag). may_have opcode k ≡ true) (sym same) may ];
}

flag_by_test : (opcode : Opcode) (set n : ℕ) (f : Flag) (b : Bool) → (may_have opcode f && not (has_flag set f)) ≡ b → AreFlagsOf opcode set → cond b (Some (flags_with set f)) None ≡ Some n → AreFlagsOf opcode n
flag_by_test opcode set n f true t h e =
    subst (λ (k : ℕ). AreFlagsOf opcode k) (same_Some (flags_with set f) n e) (one_more_flag opcode set f h (and_parts (may_have opcode f) (not (has_flag set f)) t).0)
flag_by_test opcode set n f false t h e = absurd cc

flag_given : (opcode : Opcode) (set n : ℕ) (o : Option Flag) → AreFlagsOf opcode set → with_flag opcode set o ≡ Some n → AreFlagsOf opcode n
flag_given opcode set n (Some f) h e = flag_by_test opcode set n f (may_have opcode f && not (has_flag set f)) refl h e
flag_given opcode set n None h e = absurd cc

gives_flags_core : (opcode : Opcode) → Gives (flags_core opcode) (AreFlagsOf opcode)
unfolding flags_core
gives_flags_core opcode =
    gives_loop class flag_shape (AreFlagsOf opcode)
    (λ set h. gives_one class (flag_class ∷ []) (λ t. with_flag opcode set (flag_of t)) (AreFlagsOf opcode) (λ t n e. flag_given opcode set n (flag_of t) h e))
    0 (no_flags opcode)

pub gives_flags : (opcode : Opcode) → Gives (flags_row opcode) (AreFlagsOf opcode)
gives_flags opcode = gives_labelled flags_shape (gives_flags_core opcode)

all_formed : (cs : List TypedConstantTree) → AllAre IsTypedFormed cs → AreFormed (constants cs)
all_formed [] h = tt
all_formed (c ∷ cs) h = (h.0, all_formed cs h.1)

has_constant : (cs : List TypedConstantTree) → IsNotEmpty cs → HasConstant (constants cs)
has_constant [] h = h
has_constant (c ∷ cs) h = tt

-- rows over any row of constants with their types
module _ (limits : Limits) (typed : Row Located TypedConstantTree) (h : Gives typed IsTypedFormed) where
  gives_elements_core : Gives (elements_core typed) (AllAre IsTypedFormed)
  unfolding elements_core
  gives_elements_core = gives_separated class (word terminal.Comma) h

  gives_elements : Gives (elements_row typed) (AllAre IsTypedFormed)
  gives_elements = gives_labelled list_shape gives_elements_core

  gives_array_constant : Gives (array_constant_row typed) IsFormed
  gives_array_constant =
      gives_mapped _ IsFormed (gives_pair (gives_any (word terminal.OpenBracket)) (gives_before (word terminal.CloseBracket) gives_elements)) (λ v x. all_formed v.1 x.1)

  gives_struct_constant : Gives (struct_constant_row typed) IsFormed
  gives_struct_constant =
      gives_mapped _ IsFormed (gives_pair (gives_any (word terminal.OpenBrace)) (gives_before (word terminal.CloseBrace) gives_elements)) (λ v x. all_formed v.1 x.1)

  gives_packed_constant : Gives (packed_constant_row typed) IsFormed
  gives_packed_constant =
      gives_mapped _ IsFormed
      (gives_pair (gives_any (word terminal.Less)) (gives_second (word terminal.OpenBrace) (gives_before (keep_second (word terminal.CloseBrace) (word terminal.Greater)) gives_elements)))
      (λ v x. all_formed v.1 x.1)

  gives_operands_core : Gives (operands_core typed) (λ cs. IsNotEmpty cs × AllAre IsTypedFormed cs)
  unfolding operands_core
  gives_operands_core =
      gives_both (λ c cs. c ∷ cs) (λ cs. IsNotEmpty cs × AllAre IsTypedFormed cs) h (gives_many class (gives_second (word terminal.Comma) h)) (λ c cs x xs. (tt, (x, xs)))

  gives_operands : Gives (operands_row typed) (λ cs. IsNotEmpty cs × AllAre IsTypedFormed cs)
  gives_operands = gives_labelled operands_shape gives_operands_core

  gives_element_address : (place : Place) → Gives (element_address_row limits typed place) IsFormed
  gives_element_address place =
      gives_mapped _ IsFormed
      (gives_pair (gives_flags op.GetElementPtr)
      (gives_second (word terminal.OpenParenthesis)
      (gives_pair (gives_any (keep_first (type_row limits) (word terminal.Comma))) (gives_before (word terminal.CloseParenthesis) gives_operands))))
      (λ v x. (x.0, has_constant v.1.1 x.1.1.0, all_formed v.1.1 x.1.1.1))

  gives_conversion : (place : Place) (opcode : Opcode) → is_constant_cast opcode ≡ true → Gives (conversion_row limits typed place opcode) IsFormed
  gives_conversion place opcode ok =
      gives_mapped _ IsFormed
      (gives_second (word terminal.OpenParenthesis)
      (gives_pair (gives_before (word terminal.To) h) (gives_any (keep_first (type_row limits) (word terminal.CloseParenthesis)))))
      (λ v x. (ok, x.0))

  gives_arithmetic : (place : Place) (opcode : Opcode) → is_constant_binary opcode ≡ true → Gives (arithmetic_row typed place opcode) IsFormed
  gives_arithmetic place opcode ok =
      gives_mapped _ IsFormed
      (gives_pair (gives_flags opcode)
      (gives_second (word terminal.OpenParenthesis)
      (gives_pair (gives_before (word terminal.Comma) h) (gives_before (word terminal.CloseParenthesis) h))))
      (λ v x. (ok, x.0, x.1.0, x.1.1))

  gives_expression_by : (place : Place) (opcode : Opcode) → Gives (expression_by limits typed place opcode) IsFormed
  gives_expression_by place op.GetElementPtr = gives_element_address place
  gives_expression_by place op.PtrToInt = gives_conversion place op.PtrToInt refl
  gives_expression_by place op.IntToPtr = gives_conversion place op.IntToPtr refl
  gives_expression_by place op.Trunc = gives_conversion place op.Trunc refl
  gives_expression_by place op.Add = gives_arithmetic place op.Add refl
  gives_expression_by place op.Sub = gives_arithmetic place op.Sub refl
  gives_expression_by place op.Xor = gives_arithmetic place op.Xor refl
  gives_expression_by place _ = gives_fail expression_shape IsFormed

  gives_expression_core : (v : Opcode × Place) → Gives (expression_core limits typed v) IsFormed
  unfolding expression_core
  gives_expression_core v = gives_expression_by v.1 v.0

  gives_expression : Gives (expression_row limits typed) IsFormed
  gives_expression =
      gives_chain expression_shape IsFormed (gives_any (token_with_place expression_classes opcode_in)) (λ v x. gives_labelled expression_shape (gives_expression_core v))

  gives_holder_step : Gives (holder_step limits typed) IsFormed
  gives_holder_step = gives_alt class gives_array_constant (gives_alt class gives_struct_constant (gives_alt class gives_packed_constant gives_expression))

gives_typed_core : (limits : Limits) (c : Row Located ConstantTree) → Gives c IsFormed → Gives (typed_core limits c) IsTypedFormed
unfolding typed_core
gives_typed_core limits c h = gives_weaker IsTypedFormed (gives_pair (gives_any (type_row limits)) h) (λ v x. x.1)

gives_constant_core : (holder : Row Located ConstantTree) → Gives holder IsFormed → Gives (constant_core holder) IsFormed
unfolding constant_core
gives_constant_core holder h =
    gives_alt class (gives_mapped _ IsFormed (gives_any integer_row) (λ v x. tt))
    (gives_alt class (gives_mapped _ IsFormed (gives_any global_name_row) (λ v x. tt))
    (gives_alt class (gives_mapped _ IsFormed (gives_any byte_string_row) (λ v x. tt))
    (gives_alt class (gives_mapped _ IsFormed (gives_any (token_with_place simple_classes simple_word)) (λ v x. tt)) h)))

gives_holder : (limits : Limits) (depth : ℕ) → Gives (holder_core limits depth) IsFormed
unfolding holder_core
gives_holder limits zero = gives_fail holder_shape IsFormed
gives_holder limits (suc n) =
    gives_holder_step limits (typed_over limits (constant_over (holder_row limits n)))
    (gives_labelled type_shape (gives_typed_core limits (constant_over (holder_row limits n))
    (gives_labelled constant_shape (gives_constant_core (holder_row limits n) (gives_labelled holder_shape (gives_holder limits n))))))

gives_constant_at : (limits : Limits) (depth : ℕ) → Gives (constant_at limits depth) IsFormed
gives_constant_at limits depth = gives_labelled constant_shape (gives_constant_core (holder_row limits depth) (gives_labelled holder_shape (gives_holder limits depth)))

pub gives_constant : (limits : Limits) → Gives (constant_row limits) IsFormed
gives_constant limits = gives_constant_at limits limits.nesting

pub gives_typed_constant : (limits : Limits) → Gives (typed_constant_row limits) IsTypedFormed
gives_typed_constant limits = gives_labelled type_shape (gives_typed_core limits (constant_at limits limits.nesting) (gives_constant limits))

gives_value_core : (limits : Limits) → Gives (value_core limits) IsValueFormed
unfolding value_core
gives_value_core limits =
    gives_alt class (gives_mapped LocalValue IsValueFormed (gives_any local_row) (λ v x. tt)) (gives_mapped ConstantValue IsValueFormed (gives_constant limits) (λ v x. x))

pub gives_value : (limits : Limits) → Gives (value_row limits) IsValueFormed
gives_value limits = gives_labelled value_shape (gives_value_core limits)

gives_typed_value_core : (limits : Limits) → Gives (typed_value_core limits) IsOperandFormed
unfolding typed_value_core
gives_typed_value_core limits = gives_weaker IsOperandFormed (gives_pair (gives_any (type_row limits)) (gives_value limits)) (λ v x. x.1)

pub gives_typed_value : (limits : Limits) → Gives (typed_value_row limits) IsOperandFormed
gives_typed_value limits = gives_labelled type_shape (gives_typed_value_core limits)
