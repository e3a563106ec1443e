-- The place of a value in a list without equals.
use Rattle.std.proofs.Common.{◌≡◌, ℕ, zero, suc, ◌<◌, Bool, true, false, ◌||◌, List, [], ◌∷◌, length, get_or, slice_get, slice_index_or, map, cond, Some, refl, sym, ap, ◌∙◌, arith}
use Rattle.std.specs.List.{IsDistinct, list_any}
use Rattle.std.specs.Option.{option_map}
use Rattle.std.proofs.lemmas.Option.{get_or_from_slice_get, slice_get-map}
use Rattle.std.proofs.lemmas.Bool.{false≢true, false_from_ne_true}
use Rattle.std.proofs.lemmas.List.Elements.{All-from_recursion}
use Rattle.record_table.specs.Layout.{place}
use Rattle.module_arena.specs.Module.{LocalName, Numbered}
use Rattle.module_arena.specs.Same.{same_type, same_local}
use Rattle.module_arena.proofs.SameNames.{same_self}
use Rattle.module_arena.proofs.SameValues.{type_is, type_self}
use Rattle.type_table.specs.Tree.{Tree}

module _ {A : Type 0} (same : A → A → Bool) (x d : A) where
  -- the first that is the same
  pub place_first : (xs : List A) (i : ℕ) → i < length xs → same (get_or xs i d) x ≡ true → ((j : ℕ) → j < i → same (get_or xs j d) x ≡ false) → place same xs x ≡ i
  unfolding place
  place_first [] i lt here before = absurd (omega arith)
  place_first (y ∷ ys) zero lt here before = ap (λ (b : Bool). cond b 0 (suc (place same ys x))) here
  place_first (y ∷ ys) (suc i) lt here before =
      ap (λ (b : Bool). cond b 0 (suc (place same ys x))) (before 0 (omega arith))
      ∙ ap suc (place_first ys i (omega arith) here (λ j l. before (suc j) (omega arith)))

  -- where none is
  pub place_none : (xs : List A) → ((y : A) → same x y ≡ false → same y x ≡ false) → list_any (same x) xs ≡ false → place same xs x ≡ length xs
  unfolding place
  place_none [] turn none = refl
  place_none (y ∷ ys) turn none = by (same x y) refl none (place_none ys turn)
    where
      by : (b : Bool) → same x y ≡ b → (b || list_any (same x) ys) ≡ false → (list_any (same x) ys ≡ false → place same ys x ≡ length ys) → cond (same y x) 0 (suc (place same ys x)) ≡ suc (length ys)
      by true e h again = absurd (false≢true (sym h))
      by false e h again = ap (λ (b : Bool). cond b 0 (suc (place same ys x))) (turn y e) ∙ ap suc (again h)

-- in a list without equals each stands at its place
pub place_at : {A : Type 0} (same : A → A → Bool) → ((x : A) → same x x ≡ true) → (xs : List A) (i : ℕ) (d : A) → IsDistinct same xs → i < length xs → place same xs (get_or xs i d) ≡ i
unfolding place IsDistinct
place_at same self [] i d apart lt = absurd (omega arith)
place_at same self (x ∷ xs) zero d apart lt = ap (λ (b : Bool). cond b 0 (suc (place same xs x))) (self x)
place_at {A} same self (x ∷ xs) (suc i) d apart lt =
    let within : i < length xs = omega arith in
    let other = All-from_recursion (λ (y : A). same x y ≡ false) xs apart.0 i d within in
    ap (λ (b : Bool). cond b 0 (suc (place same xs (get_or xs i d)))) other ∙ ap suc (place_at same self xs i d apart.1 within)

pub local_place : (xs : List LocalName) (i : ℕ) → IsDistinct same_local xs → i < length xs → place same_local xs (get_or xs i (Numbered 0)) ≡ i
local_place xs i apart lt = place_at same_local same_self xs i (Numbered 0) apart lt

type_turned : (x y : Tree) → same_type x y ≡ false → same_type y x ≡ false
type_turned x y e = false_from_ne_true (same_type y x) (λ h. false≢true (sym e ∙ ap (λ (z : Tree). same_type x z) (type_is y x h) ∙ type_self x))

-- a type that is not listed has the place behind the last
pub type_place_none : (xs : List Tree) (x : Tree) → list_any (same_type x) xs ≡ false → place same_type xs x ≡ length xs
type_place_none xs x none = place_none same_type x x xs (type_turned x) none

-- what stands at a place of a mapped list
pub mapped_at : {X Y : Type 0} (f : X → Y) (xs : List X) (id : ℕ) (x : X) (d : Y) → slice_get xs id ≡ Some x → f x ≡ slice_index_or (map f xs) id d
mapped_at f xs id x d e = sym (get_or_from_slice_get (map f xs) id (f x) d (slice_get-map f xs id ∙ ap (option_map f) e))
