-- The integer types in the types of a text have 1 to 128 bits.
use Rattle.std.proofs.Common.{◌≡◌, ℕ, zero, suc, List, [], ◌∷◌, Option, Some, None, option_map, refl, subst}
use Rattle.ir_lexer.specs.Ahead.{Located}
use Rattle.ir_terminals.specs.PhraseRows.Row.{Row, keep_second}
use Rattle.ir_base.specs.declared.place.Place.{Place}
use Rattle.ir_terminals.specs.declared.limits.Limits.{Limits}
use Rattle.ir_terminals.specs.declared.terminal.Terminal.TheVariants as terminal
use Rattle.ir_terminals.specs.Role.{class, terminal as terminal_of}
use Rattle.ir_terminals.specs.Terminal.{integer_type_class}
use Rattle.ir_terminals.specs.Tokens.{word, integer_row, named_local_row}
use Rattle.ir_terminals.specs.Values.{width_of_type}
use Rattle.ir_phrases.specs.Constants.Placed.{placed_by}
use Rattle.ir_phrases.specs.Constants.Forms.{AllAre}
use Rattle.ir_phrases.specs.Constants.Tree.{TypeTree, IntegerType, PointerType, VoidType, ArrayType, StructType, NamedType, TypeTrees, no_types, more_types, types}
use Rattle.ir_phrases.specs.Constants.Types.{nest_shape, value_type_shape, type_shape, list_shape, int_row, array_row, types_core, types_row, struct_row, packed_row, nest_step, value_type_core, value_type_over, type_core, type_over, nest_core, nest_row, type_at, type_row, value_type_row, fields_core, fields_row}
use Rattle.name_rules.proofs.OnReading.Given.{IsSpelled, Given, given_any, given_fail, given_one, given_mapped, given_second, given_before, given_pair, given_alt, given_separated, given_labelled}
use Rattle.name_rules.proofs.OnReading.Spellings.{IsWidth, width_well}

abbrev mutual
  -- each integer type in it has 1 to 128 bits
  pub HasWidths : TypeTree → Type 0
  HasWidths (IntegerType place width) = IsWidth width
  HasWidths (PointerType place) = Unit {0}
  HasWidths (VoidType place) = Unit {0}
  HasWidths (ArrayType place count element) = HasWidths element
  HasWidths (StructType place packed parts) = HaveWidths parts
  HasWidths (NamedType name) = Unit {0}

  pub HaveWidths : TypeTrees → Type 0
  HaveWidths no_types = Unit {0}
  HaveWidths (more_types t ts) = HasWidths t × HaveWidths ts

pub all_widths : (ts : List TypeTree) → AllAre HasWidths ts → HaveWidths (types ts)
all_widths [] h = tt
all_widths (t ∷ ts) h = (h.0, all_widths ts h.1)

width_placed : (t : Located) (v : ℕ × Place) → IsSpelled t → placed_by width_of_type t ≡ Some v → IsWidth v.0
width_placed t v h e = by (width_of_type (terminal_of t.token)) refl e
  where
    once : (a b : ℕ × Place) → Some a ≡ Some b → a ≡ b
    once a b q = cc

    by : (o : Option ℕ) → width_of_type (terminal_of t.token) ≡ o → option_map (λ a. (a, t.place)) o ≡ Some v → IsWidth v.0
    by None q e = absurd cc
    by (Some w) q e = subst (λ (x : ℕ × Place). IsWidth x.0) (once (w, t.place) v e) (width_well t w q)

given_int : Given int_row HasWidths
given_int = given_mapped _ HasWidths (given_one class (integer_type_class ∷ []) (placed_by width_of_type) (λ v. IsWidth v.0) width_placed) (λ v x. x)

module _ (t : Row Located TypeTree) (h : Given t HasWidths) where
  given_array : Given (array_row t) HasWidths
  given_array =
      given_mapped _ HasWidths
      (given_pair (given_any (word terminal.OpenBracket)) (given_pair (given_any integer_row) (given_second (word terminal.X) (given_before (word terminal.CloseBracket) h))))
      (λ v x. x.1.1)

  given_types_core : Given (types_core t) (AllAre HasWidths)
  unfolding types_core
  given_types_core = given_separated class (word terminal.Comma) h

  pub given_types : Given (types_row t) (AllAre HasWidths)
  given_types = given_labelled list_shape given_types_core

  given_struct : Given (struct_row t) HasWidths
  given_struct =
      given_mapped _ HasWidths (given_pair (given_any (word terminal.OpenBrace)) (given_before (word terminal.CloseBrace) given_types)) (λ v x. all_widths v.1 x.1)

  given_packed : Given (packed_row t) HasWidths
  given_packed =
      given_mapped _ HasWidths
      (given_pair (given_any (word terminal.Less)) (given_second (word terminal.OpenBrace) (given_before (keep_second (word terminal.CloseBrace) (word terminal.Greater)) given_types)))
      (λ v x. all_widths v.1 x.1)

  given_nest_step : Given (nest_step t) HasWidths
  given_nest_step = given_alt class given_array (given_alt class given_struct given_packed)

module _ (limits : Limits) where
  given_value_core : (nest : Row Located TypeTree) → Given nest HasWidths → Given (value_type_core limits nest) HasWidths
  unfolding value_type_core
  given_value_core nest h =
      given_alt class given_int
      (given_alt class (given_mapped PointerType HasWidths (given_any (word terminal.Ptr)) (λ v x. tt))
      (given_alt class (given_mapped NamedType HasWidths (given_any (named_local_row limits)) (λ v x. tt)) h))

  given_over : (nest : Row Located TypeTree) → Given nest HasWidths → Given (value_type_over limits nest) HasWidths
  given_over nest h = given_labelled value_type_shape (given_value_core nest h)

  given_core : (nest : Row Located TypeTree) → Given nest HasWidths → Given (type_core limits nest) HasWidths
  unfolding type_core
  given_core nest h = given_alt class (given_mapped VoidType HasWidths (given_any (word terminal.Void)) (λ v x. tt)) (given_over nest h)

  given_type_over : (nest : Row Located TypeTree) → Given nest HasWidths → Given (type_over limits nest) HasWidths
  given_type_over nest h = given_labelled type_shape (given_core nest h)

  given_nest : (depth : ℕ) → Given (nest_core limits depth) HasWidths
  unfolding nest_core
  given_nest zero = given_fail nest_shape HasWidths
  given_nest (suc n) = given_nest_step (type_over limits (nest_row limits n)) (given_type_over (nest_row limits n) (given_labelled nest_shape (given_nest n)))

  given_type_at : (depth : ℕ) → Given (type_at limits depth) HasWidths
  given_type_at depth = given_type_over (nest_row limits depth) (given_labelled nest_shape (given_nest depth))

  -- a type
  pub given_type : Given (type_row limits) HasWidths
  given_type = given_type_at limits.nesting

  pub given_value_type : Given (value_type_row limits) HasWidths
  given_value_type = given_over (nest_row limits limits.nesting) (given_labelled nest_shape (given_nest limits.nesting))

  given_fields_core : (depth : ℕ) → Given (fields_core limits depth) (AllAre HasWidths)
  unfolding fields_core
  given_fields_core zero = given_fail list_shape (AllAre HasWidths)
  given_fields_core (suc n) = given_types (type_at limits n) (given_type_at n)

  -- the fields of a struct
  pub given_fields : Given (fields_row limits) (AllAre HasWidths)
  given_fields = given_labelled list_shape (given_fields_core limits.nesting)
