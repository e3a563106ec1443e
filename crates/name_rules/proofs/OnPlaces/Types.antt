-- What the types of a text ask for stands at their tokens, in order.
use Rattle.std.proofs.Common.{◌≡◌, ℕ, zero, suc, Bool, true, false, List, [], ◌∷◌, ◌++◌, Option, Some, refl, sym, ap, subst, flat_map}
use Rattle.ir_lexer.specs.Ahead.{Located}
use Rattle.ir_terminals.specs.PhraseRows.Row.{Row, keep_second}
use Rattle.ir_base.specs.declared.place.Place.{Place}
use Rattle.ir_terminals.specs.declared.limits.Limits.{Limits}
use Rattle.ir_terminals.specs.declared.terminal.Terminal.{Terminal}
use Rattle.ir_terminals.specs.declared.terminal.Terminal.TheVariants as terminal
use Rattle.ir_terminals.specs.declared.values.Integer.{Integer}
use Rattle.ir_terminals.specs.declared.values.PlacedName.{PlacedName}
use Rattle.ir_terminals.specs.Role.{class}
use Rattle.ir_terminals.specs.Terminal.{code, integer_type_class}
use Rattle.ir_terminals.specs.Tokens.{word, integer_row, named_local_row}
use Rattle.ir_terminals.specs.Values.{place_of_token, integer_of, named_local_of, width_of_type}
use Rattle.ir_phrases.specs.Constants.Placed.{token_with_place}
use Rattle.ir_phrases.specs.Constants.Tree.{TypeTree, PointerType, VoidType, ArrayType, StructType, NamedType, types}
use Rattle.ir_phrases.specs.Constants.Types.{nest_shape, value_type_shape, type_shape, list_shape, int_row, array_row, types_core, types_row, struct_row, packed_row, nest_step, value_type_core, value_type_over, type_core, type_over, nest_core, nest_row, type_at, type_row, value_type_row, fields_core, fields_row}
use Rattle.type_table.specs.declared.measure.Measure.{Measure}
use Rattle.name_rules.specs.Demand.{Demand, is_length, is_large, nests, is_small}
use Rattle.name_rules.specs.TypeDemands.{Known, measured, is_past, has_past, have_past, struct_measured, is_struct, type_demands, types_demands}
use Rattle.name_rules.specs.Places.Places.{InOrder}
use Rattle.name_rules.proofs.OnPlaces.Orders.{at_first}
use Rattle.name_rules.proofs.OnPlaces.Draws.{Draws, draws_any, draws_fail, draws_one, draws_mapped, draws_second, draws_before, draws_pair, draws_alt, all_asked, draws_separated, draws_labelled}
use Rattle.name_rules.proofs.OnPlaces.Tokens.{integer_place, struct_place}

pub types_flat : (known : Known) (ts : List TypeTree) → types_demands known (types ts) ≡ flat_map (type_demands known) ts
types_flat known [] = refl
types_flat known (t ∷ ts) = ap (λ all. type_demands known t ++ all) (types_flat known ts)

-- what a type asks for at its first token: its nesting, and its size
abbrev Sizes : Type 0
Sizes = Option Measure × (Bool × Bool)

abbrev sized : Sizes → Place → List Demand
sized x place = nests place x.0 ∷ is_small place x.1.0 x.1.1 ∷ []

place_once : (a b : Place) → Some a ≡ Some b → a ≡ b
place_once a b e = cc

draws_sized : (w : Terminal) → Draws (word w) sized
draws_sized w =
    draws_one class (code w ∷ []) place_of_token sized
    (λ t p e x. subst (λ q. InOrder (t ∷ []) (sized x q)) (place_once t.place p e)
    (at_first t [] (nests t.place x.0) (is_small t.place x.1.0 x.1.1 ∷ []) refl (at_first t [] (is_small t.place x.1.0 x.1.1) [] refl tt)))

abbrev counted_asked : Unit {0} → Integer → List Demand
counted_asked x count = is_length count ∷ []

draws_count : Draws integer_row counted_asked
draws_count =
    draws_one class (code terminal.Integer ∷ []) integer_of counted_asked (λ t i e x. at_first t [] (is_length i) [] (ap Some (integer_place t i e)) tt)

abbrev named_asked : Known → PlacedName → List Demand
named_asked known name = type_demands known (NamedType name)

draws_named : (limits : Limits) → Draws (named_local_row limits) named_asked
draws_named limits =
    draws_one class (code terminal.Local ∷ []) (named_local_of limits.with_left_out) named_asked
    (λ t n e known.
    let at = ap Some (struct_place limits.with_left_out t n e) in
    let nested = nests n.place (struct_measured known n.name) in
    let small = is_small n.place (is_large (struct_measured known n.name)) false in
    at_first t [] (is_struct known n) (nested ∷ small ∷ []) at (at_first t [] nested (small ∷ []) at (at_first t [] small [] at tt)))

draws_int : Draws int_row type_demands
draws_int = draws_mapped _ type_demands (draws_any Known (token_with_place (integer_type_class ∷ []) width_of_type)) (λ us v d known. tt)

module _ (t : Row Located TypeTree) (h : Draws t type_demands) where
  draws_array : Draws (array_row t) type_demands
  draws_array =
      draws_mapped _ type_demands
      (draws_pair (draws_sized terminal.OpenBracket) (draws_pair draws_count (draws_second (word terminal.X) (draws_before (word terminal.CloseBracket) h))))
      (λ us v d known. let whole = ArrayType v.0 v.1.0 v.1.1 in d ((measured known whole, (is_past known whole, has_past known v.1.1)), (tt, known)))

  draws_types_core : Draws (types_core t) (all_asked type_demands)
  unfolding types_core
  draws_types_core = draws_separated class (word terminal.Comma) h

  pub draws_types : Draws (types_row t) (all_asked type_demands)
  draws_types = draws_labelled list_shape draws_types_core

  struct_asked : (packed : Bool) (us : List Located) (place : Place) (ts : List TypeTree) (known : Known) → ((x : Sizes) → InOrder us (sized x place ++ flat_map (type_demands known) ts)) → InOrder us (type_demands known (StructType place packed (types ts)))
  struct_asked packed us place ts known d =
      let whole = StructType place packed (types ts) in
      subst (λ all. InOrder us (nests place (measured known whole) ∷ is_small place (is_past known whole) (have_past known (types ts)) ∷ all)) (sym (types_flat known ts))
      (d (measured known whole, (is_past known whole, have_past known (types ts))))

  draws_struct : Draws (struct_row t) type_demands
  draws_struct =
      draws_mapped _ type_demands (draws_pair (draws_sized terminal.OpenBrace) (draws_before (word terminal.CloseBrace) draws_types))
      (λ us v d known. struct_asked false us v.0 v.1 known (λ x. d (x, known)))

  draws_packed : Draws (packed_row t) type_demands
  draws_packed =
      draws_mapped _ type_demands
      (draws_pair (draws_sized terminal.Less) (draws_second (word terminal.OpenBrace) (draws_before (keep_second (word terminal.CloseBrace) (word terminal.Greater)) draws_types)))
      (λ us v d known. struct_asked true us v.0 v.1 known (λ x. d (x, known)))

  draws_nest_step : Draws (nest_step t) type_demands
  draws_nest_step = draws_alt class draws_array (draws_alt class draws_struct draws_packed)

module _ (limits : Limits) where
  draws_value_core : (nest : Row Located TypeTree) → Draws nest type_demands → Draws (value_type_core limits nest) type_demands
  unfolding value_type_core
  draws_value_core nest h =
      draws_alt class draws_int
      (draws_alt class (draws_mapped PointerType type_demands (draws_any Known (word terminal.Ptr)) (λ us v d known. tt))
      (draws_alt class (draws_mapped NamedType type_demands (draws_named limits) (λ us v d known. d known)) h))

  draws_over : (nest : Row Located TypeTree) → Draws nest type_demands → Draws (value_type_over limits nest) type_demands
  draws_over nest h = draws_labelled value_type_shape (draws_value_core nest h)

  draws_core : (nest : Row Located TypeTree) → Draws nest type_demands → Draws (type_core limits nest) type_demands
  unfolding type_core
  draws_core nest h = draws_alt class (draws_mapped VoidType type_demands (draws_any Known (word terminal.Void)) (λ us v d known. tt)) (draws_over nest h)

  draws_type_over : (nest : Row Located TypeTree) → Draws nest type_demands → Draws (type_over limits nest) type_demands
  draws_type_over nest h = draws_labelled type_shape (draws_core nest h)

  draws_nest : (depth : ℕ) → Draws (nest_core limits depth) type_demands
  unfolding nest_core
  draws_nest zero = draws_fail nest_shape type_demands
  draws_nest (suc n) = draws_nest_step (type_over limits (nest_row limits n)) (draws_type_over (nest_row limits n) (draws_labelled nest_shape (draws_nest n)))

  draws_type_at : (depth : ℕ) → Draws (type_at limits depth) type_demands
  draws_type_at depth = draws_type_over (nest_row limits depth) (draws_labelled nest_shape (draws_nest depth))

  -- a type
  pub draws_type : Draws (type_row limits) type_demands
  draws_type = draws_type_at limits.nesting

  -- a type but `void`
  pub draws_value_type : Draws (value_type_row limits) type_demands
  draws_value_type = draws_over (nest_row limits limits.nesting) (draws_labelled nest_shape (draws_nest limits.nesting))

  draws_fields_core : (depth : ℕ) → Draws (fields_core limits depth) (all_asked type_demands)
  unfolding fields_core
  draws_fields_core zero = draws_fail list_shape (all_asked type_demands)
  draws_fields_core (suc n) = draws_types (type_at limits n) (draws_type_at n)

  -- the fields of a struct
  pub draws_fields : Draws (fields_row limits) (all_asked type_demands)
  draws_fields = draws_labelled list_shape (draws_fields_core limits.nesting)
