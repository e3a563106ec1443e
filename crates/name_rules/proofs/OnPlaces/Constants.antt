-- What the constants and values of a text ask for stands at their tokens, in order.
use Rattle.std.proofs.Common.{◌≡◌, ℕ, zero, suc, Bool, false, List, [], ◌∷◌, ◌++◌, Some, refl, sym, ap, ◌∙◌, subst, flat_map, append_assoc}
use Rattle.ir_base.specs.declared.place.Place.{Place}
use Rattle.ir_lexer.specs.Ahead.{Located}
use Rattle.ir_tables.specs.declared.opcode.Opcode.{Opcode}
use Rattle.ir_tables.specs.declared.opcode.Opcode.TheVariants as op
use Rattle.ir_terminals.specs.PhraseRows.Row.{Row, keep_second}
use Rattle.ir_terminals.specs.declared.limits.Limits.{Limits}
use Rattle.ir_terminals.specs.declared.terminal.Terminal.TheVariants as terminal
use Rattle.ir_terminals.specs.declared.values.Integer.{Integer}
use Rattle.ir_terminals.specs.declared.values.Local.{Local}
use Rattle.ir_terminals.specs.declared.values.PlacedName.{PlacedName}
use Rattle.ir_terminals.specs.Role.{class}
use Rattle.ir_terminals.specs.Terminal.{code}
use Rattle.ir_terminals.specs.Tokens.{word, integer_row, global_name_row, byte_string_row, local_row}
use Rattle.ir_terminals.specs.Values.{opcode_in, integer_of, name_of_global, local_of}
use Rattle.ir_phrases.specs.Constants.Placed.{token_with_place}
use Rattle.ir_phrases.specs.Constants.Flags.{flags_row}
use Rattle.ir_phrases.specs.Constants.Tree.{ConstantTree, IntegerConstant, AddressConstant, TypedConstantTree, constants, ValueTree, LocalValue, ConstantValue, TypedValueTree}
use Rattle.ir_phrases.specs.Constants.Types.{type_shape, list_shape}
use Rattle.ir_phrases.specs.Constants.Constants.{simple_classes, simple_word, expression_classes, holder_shape, constant_shape, expression_shape, typed_core, typed_over, elements_core, elements_row, array_constant_row, struct_constant_row, packed_constant_row, operands_shape, operands_core, operands_row, element_address_row, conversion_row, arithmetic_row, expression_by, expression_core, expression_row, holder_step, constant_core, constant_over, holder_core, holder_row, constant_at, constant_row, typed_constant_row}
use Rattle.ir_phrases.specs.Constants.Values.{value_shape, value_core, value_row, typed_value_core, typed_value_row}
use Rattle.type_table.specs.Tree.{Tree}
use Rattle.name_rules.specs.Demand.{Demand, integer_fits, is_local}
use Rattle.name_rules.specs.FunctionDemands.{value_demands, operand_demands}
use Rattle.name_rules.specs.Locals.{Locals}
use Rattle.name_rules.specs.TypeDemands.{Known, is_global, type_demands, constant_demands, constants_demands}
use Rattle.name_rules.specs.Written.{type_in, bits_at}
use Rattle.name_rules.specs.Places.Places.{InOrder}
use Rattle.name_rules.proofs.OnPlaces.Orders.{at_first}
use Rattle.name_rules.proofs.OnPlaces.Draws.{Draws, draws_any, draws_fail, draws_one, draws_mapped, draws_so, draws_second, draws_before, draws_pair, draws_right, draws_alt, all_asked, draws_many, draws_some, draws_separated, draws_labelled, draws_chosen}
use Rattle.name_rules.proofs.OnPlaces.Tokens.{integer_place, global_place, local_place}
use Rattle.name_rules.proofs.OnPlaces.Types.{draws_type}

-- what a constant asks for at a type
abbrev pub constant_asked : Known × Tree → ConstantTree → List Demand
constant_asked x c = constant_demands x.0 x.1 c

-- and behind its type
abbrev pub typed_asked : Known → TypedConstantTree → List Demand
typed_asked known typed = type_demands known typed.0 ++ constant_demands known (type_in typed.0) typed.1

constants_flat : (known : Known) (cs : List TypedConstantTree) → constants_demands known (constants cs) ≡ flat_map (typed_asked known) cs
constants_flat known [] = refl
constants_flat known (c ∷ cs) =
    sym (append_assoc (type_demands known c.0) (constant_demands known (type_in c.0) c.1) (constants_demands known (constants cs)))
    ∙ ap (λ all. typed_asked known c ++ all) (constants_flat known cs)

-- an integer of so many bits
abbrev bits_asked : ℕ → Integer → List Demand
bits_asked bits written = integer_fits bits written ∷ []

draws_bits : Draws integer_row bits_asked
draws_bits =
    draws_one class (code terminal.Integer ∷ []) integer_of bits_asked (λ t i e bits. at_first t [] (integer_fits bits i) [] (ap Some (integer_place t i e)) tt)

abbrev pub global_asked : Known → PlacedName → List Demand
global_asked known name = is_global known name ∷ []

-- the name of a global
pub draws_global : Draws global_name_row global_asked
draws_global =
    draws_one class (code terminal.GlobalName ∷ []) name_of_global global_asked (λ t n e known. at_first t [] (is_global known n) [] (ap Some (global_place t n e)) tt)

-- rows over any row of constants with their types
module _ (limits : Limits) (typed : Row Located TypedConstantTree) (h : Draws typed typed_asked) where
  draws_elements_core : Draws (elements_core typed) (all_asked typed_asked)
  unfolding elements_core
  draws_elements_core = draws_separated class (word terminal.Comma) h

  draws_elements : Draws (elements_row typed) (all_asked typed_asked)
  draws_elements = draws_labelled list_shape draws_elements_core

  listed : (us : List Located) (cs : List TypedConstantTree) (known : Known) → InOrder us (flat_map (typed_asked known) cs) → InOrder us (constants_demands known (constants cs))
  listed us cs known d = subst (InOrder us) (sym (constants_flat known cs)) d

  draws_array_constant : Draws (array_constant_row typed) constant_asked
  draws_array_constant =
      draws_mapped _ constant_asked (draws_right (word terminal.OpenBracket) (draws_before (word terminal.CloseBracket) draws_elements)) (λ us v d x. listed us v.1 x.0 (d x.0))

  draws_struct_constant : Draws (struct_constant_row typed) constant_asked
  draws_struct_constant =
      draws_mapped _ constant_asked (draws_right (word terminal.OpenBrace) (draws_before (word terminal.CloseBrace) draws_elements)) (λ us v d x. listed us v.1 x.0 (d x.0))

  draws_packed_constant : Draws (packed_constant_row typed) constant_asked
  draws_packed_constant =
      draws_mapped _ constant_asked
      (draws_right (word terminal.Less) (draws_second (word terminal.OpenBrace) (draws_before (keep_second (word terminal.CloseBrace) (word terminal.Greater)) draws_elements)))
      (λ us v d x. listed us v.1 x.0 (d x.0))

  draws_operands_core : Draws (operands_core typed) (all_asked typed_asked)
  unfolding operands_core
  draws_operands_core = draws_some h (draws_many class (draws_second (word terminal.Comma) h))

  draws_operands : Draws (operands_row typed) (all_asked typed_asked)
  draws_operands = draws_labelled operands_shape draws_operands_core

  draws_element_address : (place : Place) → Draws (element_address_row limits typed place) constant_asked
  draws_element_address place =
      draws_mapped _ constant_asked
      (draws_right (flags_row op.GetElementPtr)
      (draws_second (word terminal.OpenParenthesis)
      (draws_pair (draws_before (word terminal.Comma) (draws_type limits)) (draws_before (word terminal.CloseParenthesis) draws_operands))))
      (λ us v d x. subst (λ all. InOrder us (type_demands x.0 v.1.0 ++ all)) (sym (constants_flat x.0 v.1.1)) (d (x.0, x.0)))

  draws_conversion : (place : Place) (opcode : Opcode) → Draws (conversion_row limits typed place opcode) constant_asked
  draws_conversion place opcode =
      draws_mapped _ constant_asked
      (draws_second (word terminal.OpenParenthesis)
      (draws_pair (draws_before (word terminal.To) h) (draws_before (word terminal.CloseParenthesis) (draws_type limits))))
      (λ us v d x. subst (InOrder us) (append_assoc (type_demands x.0 v.0.0) (constant_demands x.0 (type_in v.0.0) v.0.1) (type_demands x.0 v.1)) (d (x.0, x.0)))

  draws_arithmetic : (place : Place) (opcode : Opcode) → Draws (arithmetic_row typed place opcode) constant_asked
  draws_arithmetic place opcode =
      draws_mapped _ constant_asked
      (draws_right (flags_row opcode)
      (draws_second (word terminal.OpenParenthesis)
      (draws_pair (draws_before (word terminal.Comma) h) (draws_before (word terminal.CloseParenthesis) h))))
      (λ us v d x.
      subst (InOrder us) (append_assoc (type_demands x.0 v.1.0.0) (constant_demands x.0 (type_in v.1.0.0) v.1.0.1) (typed_asked x.0 v.1.1)) (d (x.0, x.0)))

  draws_expression_by : (place : Place) (opcode : Opcode) → Draws (expression_by limits typed place opcode) constant_asked
  draws_expression_by place op.GetElementPtr = draws_element_address place
  draws_expression_by place op.PtrToInt = draws_conversion place op.PtrToInt
  draws_expression_by place op.IntToPtr = draws_conversion place op.IntToPtr
  draws_expression_by place op.Trunc = draws_conversion place op.Trunc
  draws_expression_by place op.Add = draws_arithmetic place op.Add
  draws_expression_by place op.Sub = draws_arithmetic place op.Sub
  draws_expression_by place op.Xor = draws_arithmetic place op.Xor
  draws_expression_by place _ = draws_fail expression_shape constant_asked

  draws_expression_core : (v : Opcode × Place) → Draws (expression_core limits typed v) constant_asked
  unfolding expression_core
  draws_expression_core v = draws_expression_by v.1 v.0

  draws_expression : Draws (expression_row limits typed) constant_asked
  draws_expression =
      draws_chosen (token_with_place expression_classes opcode_in) expression_shape constant_asked (λ v. draws_labelled expression_shape (draws_expression_core v))

  draws_holder_step : Draws (holder_step limits typed) constant_asked
  draws_holder_step = draws_alt class draws_array_constant (draws_alt class draws_struct_constant (draws_alt class draws_packed_constant draws_expression))

draws_typed_core : (limits : Limits) (c : Row Located ConstantTree) → Draws c constant_asked → Draws (typed_core limits c) typed_asked
unfolding typed_core
draws_typed_core limits c h = draws_so typed_asked (draws_pair (draws_type limits) h) (λ us v d known. d (known, (known, type_in v.0)))

draws_constant_core : (holder : Row Located ConstantTree) → Draws holder constant_asked → Draws (constant_core holder) constant_asked
unfolding constant_core
draws_constant_core holder h =
    draws_alt class (draws_mapped IntegerConstant constant_asked draws_bits (λ us v d x. d (bits_at x.1)))
    (draws_alt class (draws_mapped AddressConstant constant_asked draws_global (λ us v d x. d x.0))
    (draws_alt class (draws_mapped _ constant_asked (draws_any (Unit {0}) byte_string_row) (λ us v d x. tt))
    (draws_alt class (draws_mapped _ constant_asked (draws_any (Unit {0}) (token_with_place simple_classes simple_word)) (λ us v d x. tt)) h)))

draws_holder : (limits : Limits) (depth : ℕ) → Draws (holder_core limits depth) constant_asked
unfolding holder_core
draws_holder limits zero = draws_fail holder_shape constant_asked
draws_holder limits (suc n) =
    draws_holder_step limits (typed_over limits (constant_over (holder_row limits n)))
    (draws_labelled type_shape (draws_typed_core limits (constant_over (holder_row limits n))
    (draws_labelled constant_shape (draws_constant_core (holder_row limits n) (draws_labelled holder_shape (draws_holder limits n))))))

draws_constant_at : (limits : Limits) (depth : ℕ) → Draws (constant_at limits depth) constant_asked
draws_constant_at limits depth = draws_labelled constant_shape (draws_constant_core (holder_row limits depth) (draws_labelled holder_shape (draws_holder limits depth)))

-- what a value asks for at a type, where a function has these locals
abbrev pub value_asked : Known × (Locals × Tree) → ValueTree → List Demand
value_asked x v = value_demands x.0 x.1.0 x.1.1 v

-- and behind its type
abbrev pub operand_asked : Known × Locals → TypedValueTree → List Demand
operand_asked x v = operand_demands x.0 x.1 v

-- a block, or a value
abbrev pub local_asked : Locals × Bool → Local → List Demand
local_asked x written = is_local x.0 x.1 written ∷ []

-- a local
pub draws_local : Draws local_row local_asked
draws_local =
    draws_one class (code terminal.Local ∷ []) local_of local_asked (λ t l e x. at_first t [] (is_local x.0 x.1 l) [] (ap Some (local_place t l e)) tt)

module _ (limits : Limits) where
  pub draws_constant : Draws (constant_row limits) constant_asked
  draws_constant = draws_constant_at limits limits.nesting

  pub draws_typed_constant : Draws (typed_constant_row limits) typed_asked
  draws_typed_constant = draws_labelled type_shape (draws_typed_core limits (constant_at limits limits.nesting) draws_constant)

  draws_value_core : Draws (value_core limits) value_asked
  unfolding value_core
  draws_value_core =
      draws_alt class (draws_mapped LocalValue value_asked draws_local (λ us v d x. d (x.1.0, false)))
      (draws_mapped ConstantValue value_asked draws_constant (λ us v d x. d (x.0, x.1.1)))

  pub draws_value : Draws (value_row limits) value_asked
  draws_value = draws_labelled value_shape draws_value_core

  draws_typed_value_core : Draws (typed_value_core limits) operand_asked
  unfolding typed_value_core
  draws_typed_value_core = draws_so operand_asked (draws_pair (draws_type limits) draws_value) (λ us v d x. d (x.0, (x.0, (x.1, type_in v.0))))

  pub draws_typed_value : Draws (typed_value_row limits) operand_asked
  draws_typed_value = draws_labelled type_shape draws_typed_value_core
