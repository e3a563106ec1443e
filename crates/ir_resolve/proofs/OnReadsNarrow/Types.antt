-- The integer types in the types of a text have 1 to 128 bits.
use Rattle.std.proofs.Common.{◌≡◌, ℕ, zero, suc, List, [], ◌∷◌, Option, Some, None, option_map, refl, subst}
use Rattle.ir_lexer.specs.Ahead.{Located}
use Rattle.ir_terminals.specs.PhraseRows.Row.{Row, keep_second}
use Rattle.ir_base.specs.declared.place.Place.{Place}
use Rattle.ir_terminals.specs.declared.limits.Limits.{Limits}
use Rattle.ir_terminals.specs.declared.terminal.Terminal.TheVariants as terminal
use Rattle.ir_terminals.specs.Role.{class, terminal as terminal_of}
use Rattle.ir_terminals.specs.Terminal.{integer_type_class}
use Rattle.ir_terminals.specs.Tokens.{word, integer_row, named_local_row}
use Rattle.ir_terminals.specs.Values.{width_of_type}
use Rattle.ir_phrases.specs.Constants.Placed.{placed_by}
use Rattle.ir_phrases.specs.Constants.Forms.{AllAre}
use Rattle.ir_phrases.specs.Constants.Tree.{TypeTree, PointerType, VoidType, NamedType, types}
use Rattle.ir_phrases.specs.Constants.Types.{nest_shape, value_type_shape, type_shape, list_shape, int_row, array_row, types_core, types_row, struct_row, packed_row, nest_step, value_type_core, value_type_over, type_core, type_over, nest_core, nest_row, type_at, type_row, value_type_row, fields_core, fields_row}
use Rattle.ir_phrases.proofs.OnConstants.Gives.{Gives, gives_any, gives_fail, gives_one, gives_mapped, gives_second, gives_before, gives_pair, gives_alt, gives_separated, gives_labelled}
use Rattle.item_build.specs.Buildable.Narrow.{IsNarrow, AreNarrow}
use Rattle.name_rules.proofs.OnReading.Spellings.{IsWidth, width_well}

all_narrow : (ts : List TypeTree) → AllAre IsNarrow ts → AreNarrow (types ts)
all_narrow [] h = tt
all_narrow (t ∷ ts) h = (h.0, all_narrow ts h.1)

width_placed : (t : Located) (v : ℕ × Place) → placed_by width_of_type t ≡ Some v → IsWidth v.0
width_placed t v e = by (width_of_type (terminal_of t.token)) refl e
  where
    once : (a b : ℕ × Place) → Some a ≡ Some b → a ≡ b
    once a b q = cc

    by : (o : Option ℕ) → width_of_type (terminal_of t.token) ≡ o → option_map (λ a. (a, t.place)) o ≡ Some v → IsWidth v.0
    by None q e = absurd cc
    by (Some w) q e = subst (λ (x : ℕ × Place). IsWidth x.0) (once (w, t.place) v e) (width_well t w q)

gives_int : Gives int_row IsNarrow
gives_int = gives_mapped _ IsNarrow (gives_one class (integer_type_class ∷ []) (placed_by width_of_type) (λ v. IsWidth v.0) width_placed) (λ v x. x)

module _ (t : Row Located TypeTree) (h : Gives t IsNarrow) where
  gives_array : Gives (array_row t) IsNarrow
  gives_array =
      gives_mapped _ IsNarrow
      (gives_pair (gives_any (word terminal.OpenBracket)) (gives_pair (gives_any integer_row) (gives_second (word terminal.X) (gives_before (word terminal.CloseBracket) h))))
      (λ v x. x.1.1)

  gives_types_core : Gives (types_core t) (AllAre IsNarrow)
  unfolding types_core
  gives_types_core = gives_separated class (word terminal.Comma) h

  pub gives_types : Gives (types_row t) (AllAre IsNarrow)
  gives_types = gives_labelled list_shape gives_types_core

  gives_struct : Gives (struct_row t) IsNarrow
  gives_struct =
      gives_mapped _ IsNarrow (gives_pair (gives_any (word terminal.OpenBrace)) (gives_before (word terminal.CloseBrace) gives_types)) (λ v x. all_narrow v.1 x.1)

  gives_packed : Gives (packed_row t) IsNarrow
  gives_packed =
      gives_mapped _ IsNarrow
      (gives_pair (gives_any (word terminal.Less)) (gives_second (word terminal.OpenBrace) (gives_before (keep_second (word terminal.CloseBrace) (word terminal.Greater)) gives_types)))
      (λ v x. all_narrow v.1 x.1)

  gives_nest_step : Gives (nest_step t) IsNarrow
  gives_nest_step = gives_alt class gives_array (gives_alt class gives_struct gives_packed)

module _ (limits : Limits) where
  gives_value_core : (nest : Row Located TypeTree) → Gives nest IsNarrow → Gives (value_type_core limits nest) IsNarrow
  unfolding value_type_core
  gives_value_core nest h =
      gives_alt class gives_int
      (gives_alt class (gives_mapped PointerType IsNarrow (gives_any (word terminal.Ptr)) (λ v x. tt))
      (gives_alt class (gives_mapped NamedType IsNarrow (gives_any (named_local_row limits)) (λ v x. tt)) h))

  gives_over : (nest : Row Located TypeTree) → Gives nest IsNarrow → Gives (value_type_over limits nest) IsNarrow
  gives_over nest h = gives_labelled value_type_shape (gives_value_core nest h)

  gives_core : (nest : Row Located TypeTree) → Gives nest IsNarrow → Gives (type_core limits nest) IsNarrow
  unfolding type_core
  gives_core nest h = gives_alt class (gives_mapped VoidType IsNarrow (gives_any (word terminal.Void)) (λ v x. tt)) (gives_over nest h)

  gives_type_over : (nest : Row Located TypeTree) → Gives nest IsNarrow → Gives (type_over limits nest) IsNarrow
  gives_type_over nest h = gives_labelled type_shape (gives_core nest h)

  gives_nest : (depth : ℕ) → Gives (nest_core limits depth) IsNarrow
  unfolding nest_core
  gives_nest zero = gives_fail nest_shape IsNarrow
  gives_nest (suc n) = gives_nest_step (type_over limits (nest_row limits n)) (gives_type_over (nest_row limits n) (gives_labelled nest_shape (gives_nest n)))

  gives_type_at : (depth : ℕ) → Gives (type_at limits depth) IsNarrow
  gives_type_at depth = gives_type_over (nest_row limits depth) (gives_labelled nest_shape (gives_nest depth))

  -- a type
  pub gives_type : Gives (type_row limits) IsNarrow
  gives_type = gives_type_at limits.nesting

  -- a type but `void`
  pub gives_value_type : Gives (value_type_row limits) IsNarrow
  gives_value_type = gives_over (nest_row limits limits.nesting) (gives_labelled nest_shape (gives_nest limits.nesting))

  gives_fields_core : (depth : ℕ) → Gives (fields_core limits depth) (AllAre IsNarrow)
  unfolding fields_core
  gives_fields_core zero = gives_fail list_shape (AllAre IsNarrow)
  gives_fields_core (suc n) = gives_types (type_at limits n) (gives_type_at n)

  -- the fields of a struct
  pub gives_fields : Gives (fields_row limits) (AllAre IsNarrow)
  gives_fields = gives_labelled list_shape (gives_fields_core limits.nesting)
