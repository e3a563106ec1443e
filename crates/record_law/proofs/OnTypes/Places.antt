-- What is in a list is found again at its place.
use Rattle.std.proofs.Common.{◌≡◌, ℕ, suc, ◌<◌, Bool, true, false, List, [], ◌∷◌, ◌++◌, length, arith, inl, inr}
use Rattle.std.specs.Prelude.{nat_lt}
use Rattle.std.specs.List.{list_any}
use Rattle.std.proofs.lemmas.Bool.{cases_Bool, or_cases, or_left, or_right, false≢true, ltb-true, lt-ltb}
use Rattle.record_table.specs.Layout.{place}
use Rattle.record_table.specs.Listed.{IsListed}

module _ {A : Type 0} (same : A → A → Bool) (same_is : (x y : A) → same x y ≡ true → x ≡ y) (same_self : (x : A) → same x x ≡ true) where
  abbrev pub has : List A → A → Bool
  has all x = list_any (same x) all

  one_further : (place_of count : ℕ) → nat_lt place_of count ≡ true → nat_lt (suc place_of) (suc count) ≡ true
  one_further place_of count h = let less : place_of < count = ltb-true place_of count h in lt-ltb (suc place_of) (suc count) (omega (arith, less))

  other_way : (x y : A) → same x y ≡ true → same y x ≡ true
  other_way x y is = rw (same_is x y is) (same_self y)

  pub further : (y : A) (ys : List A) (x : A) → same y x ≡ false → has (y ∷ ys) x ≡ true → has ys x ≡ true
  further y ys x differs h = elim (or_cases (same x y) (has ys x) h) [
    | inl is ↦ absurd (false≢true (rw (← differs) (other_way x y is)))
    | inr later ↦ later
  ]

  -- what equals one of a list is found at its place
  pub is_listed : (all : List A) (other x : A) → has all x ≡ true → IsListed same all other x
  unfolding place
  is_listed [] other x h = absurd (false≢true h)
  is_listed (y ∷ ys) other x h = elim (cases_Bool (same y x)) [
    | inl is ↦ record { inside = rw is (lt-ltb 0 (suc (length ys)) (omega arith)); found = rw is (same_is y x is) }
    | inr differs ↦ let later = is_listed ys other x (further y ys x differs h) in record { inside = rw differs (one_further (place same ys x) (length ys) later.inside); found = rw differs later.found }
  ]

  -- what is in front of a list, or behind, is in both together
  pub in_front : (all more : List A) (x : A) → has all x ≡ true → has (all ++ more) x ≡ true
  in_front [] more x h = absurd (false≢true h)
  in_front (y ∷ all) more x h = elim (or_cases (same x y) (has all x) h) [
    | inl is ↦ or_left (same x y) (has (all ++ more) x) is
    | inr later ↦ or_right (same x y) (has (all ++ more) x) (in_front all more x later)
  ]

  pub in_rest : (all more : List A) (x : A) → has more x ≡ true → has (all ++ more) x ≡ true
  in_rest [] more x h = h
  in_rest (y ∷ all) more x h = or_right (same x y) (has (all ++ more) x) (in_rest all more x h)
