-- The places of what tokens stand for are those of the tokens.
use Rattle.std.proofs.Common.{◌≡◌, ℕ, ◌==◌, List, [], ◌∷◌, Bool, true, false, cond, if◌then◌else◌, Option, Some, None, option_map, refl, subst, drop}
use Rattle.std.proofs.lemmas.Option.{same_Some}
use Rattle.ir_base.specs.declared.place.Place.{Place}
use Rattle.ir_lexer.specs.Ahead.{Located}
use Rattle.ir_lexer.specs.Names.{bare_name, is_number, name_in}
use Rattle.ir_lexer.specs.declared.token.TokenKind.{TokenKind}
use Rattle.ir_lexer.specs.declared.token.TokenKind.TheVariants as kind
use Rattle.ir_terminals.specs.Digits.{decimal}
use Rattle.ir_terminals.specs.Values.{integer_at, if_integer, integer_of, placed_name, name_at, named_at, numbered_at, if_global, name_of_global, if_local, local_of, if_named, named_local_of, if_label, label_of}
use Rattle.ir_terminals.specs.declared.values.Integer.{Integer}
use Rattle.ir_terminals.specs.declared.values.Local.{Local}
use Rattle.ir_terminals.specs.declared.values.Local.TheVariants as locals
use Rattle.ir_terminals.specs.declared.values.PlacedName.{PlacedName}
use Rattle.name_rules.specs.Demand.{place_of_local}

abbrev place_in : Integer → Place
place_in i = i.place

integer_there : (p : Place) (s : List ℕ) → place_in (integer_at p s) ≡ p
integer_there p [] = refl
integer_there p (first ∷ digits) = by (first == 45)
  where
    by : (b : Bool) → place_in (if b then record { negative = true; magnitude = decimal digits; place = p } else record { negative = false; magnitude = decimal (first ∷ digits); place = p }) ≡ p
    by true = refl
    by false = refl

-- an integer
pub integer_place : (t : Located) (i : Integer) → integer_of t ≡ Some i → i.place ≡ t.place
integer_place t i e = by t.token.kind e
  where
    by : (k : TokenKind) → if_integer k t ≡ Some i → i.place ≡ t.place
    by kind.Integer e = subst (λ (x : Integer). x.place ≡ t.place) (same_Some (integer_at t.place t.token.spelling) i e) (integer_there t.place t.token.spelling)
    by _ e = absurd cc

name_place : (t : Located) (n : PlacedName) → name_at t ≡ Some n → n.place ≡ t.place
name_place t n e = by (name_in t.token) e
  where
    by : (o : Option (List ℕ)) → option_map (placed_name t.place) o ≡ Some n → n.place ≡ t.place
    by None e = absurd cc
    by (Some bytes) e = subst (λ (x : PlacedName). x.place ≡ t.place) (same_Some (placed_name t.place bytes) n e) refl

-- the name of a global
pub global_place : (t : Located) (n : PlacedName) → name_of_global t ≡ Some n → n.place ≡ t.place
global_place t n e = by t.token.kind e
  where
    by : (k : TokenKind) → if_global k t ≡ Some n → n.place ≡ t.place
    by kind.GlobalName e = name_place t n e
    by _ e = absurd cc

-- the name of a struct
pub struct_place : (with_left_out : Bool) (t : Located) (n : PlacedName) → named_local_of with_left_out t ≡ Some n → n.place ≡ t.place
struct_place with_left_out t n e = by t.token.kind e
  where
    unnamed : (w : Bool) → cond w (Some (placed_name t.place (drop 1 t.token.spelling))) None ≡ Some n → n.place ≡ t.place
    unnamed true e = subst (λ (x : PlacedName). x.place ≡ t.place) (same_Some (placed_name t.place (drop 1 t.token.spelling)) n e) refl
    unnamed false e = absurd cc

    by : (k : TokenKind) → if_named with_left_out k t ≡ Some n → n.place ≡ t.place
    by kind.LocalName e = name_place t n e
    by kind.UnnamedLocal e = unnamed with_left_out e
    by _ e = absurd cc

named_place : (t : Located) (l : Local) → named_at t ≡ Some l → place_of_local l ≡ t.place
named_place t l e = by (name_at t) refl e
  where
    by : (o : Option PlacedName) → name_at t ≡ o → option_map locals.Named o ≡ Some l → place_of_local l ≡ t.place
    by None q e = absurd cc
    by (Some n) q e = subst (λ x. place_of_local x ≡ t.place) (same_Some (locals.Named n) l e) (name_place t n q)

-- a local
pub local_place : (t : Located) (l : Local) → local_of t ≡ Some l → place_of_local l ≡ t.place
local_place t l e = by t.token.kind e
  where
    by : (k : TokenKind) → if_local k t ≡ Some l → place_of_local l ≡ t.place
    by kind.LocalName e = named_place t l e
    by kind.UnnamedLocal e = subst (λ x. place_of_local x ≡ t.place) (same_Some (numbered_at t) l e) refl
    by _ e = absurd cc

-- a label
pub label_place : (t : Located) (l : Local) → label_of t ≡ Some l → place_of_local l ≡ t.place
label_place t l e = by t.token.kind e
  where
    number : Local
    number = locals.Numbered (decimal (bare_name kind.Label t.token.spelling)) t.place

    tested : (b : Bool) → cond b (Some number) (named_at t) ≡ Some l → place_of_local l ≡ t.place
    tested true e = subst (λ x. place_of_local x ≡ t.place) (same_Some number l e) refl
    tested false e = named_place t l e

    by : (k : TokenKind) → if_label k t ≡ Some l → place_of_local l ≡ t.place
    by kind.Label e = tested (is_number t.token.spelling) e
    by _ e = absurd cc
