-- Places in lists.
use Rattle.std.proofs.Common.{◌≡◌, ℕ, zero, suc, ◌+◌, ◌<◌, List, [], ◌∷◌, length, take, refl, sym, ap, ◌∙◌, subst, arith, Bool, true, false, ◌||◌, Some, None, true≢false, lt-ltb}
use Rattle.std.specs.Prelude.{slice_get, find, position}
use Rattle.std.specs.List.{list_all, list_any, position_or_len}
use Rattle.std.proofs.lemmas.Bool.{and_parts}
use Rattle.std.proofs.lemmas.Option.{same_Some}
use Rattle.run_rules.proofs.OnPlaces.Options.{none_some}

module _ {X : Type 0} where
  -- the first that passes, and its place
  pub record IsFound (test : X → Bool) (xs : List X) : Type 0 where
    pub one : X
    pub passes : test one ≡ true
    pub finds : find test xs ≡ Some one
    pub stands : slice_get xs (position_or_len test xs) ≡ Some one
    pub within : position_or_len test xs < length xs

  found_later : (test : X → Bool) (x : X) (xs : List X) → test x ≡ false → IsFound test xs → IsFound test (x ∷ xs)
  found_later test x xs e r =
      let next : suc (position_or_len test xs) ≡ 1 + position_or_len test xs = omega arith in
      record {
        one = r.one;
        passes = r.passes;
        finds = rw e r.finds;
        stands = rw e (subst (λ n. slice_get (x ∷ xs) n ≡ Some r.one) next r.stands);
        within = rw e (omega (arith, r.within));
      }

  pub found_at : (test : X → Bool) (xs : List X) → list_any test xs ≡ true → IsFound test xs
  found_at test [] h = absurd (true≢false (sym h))
  found_at test (x ∷ xs) h = go (test x) refl (λ k. found_at test xs k)
    where
      go : (b : Bool) → test x ≡ b → (list_any test xs ≡ true → IsFound test xs) → IsFound test (x ∷ xs)
      go true e more = record { one = x; passes = e; finds = rw e refl; stands = rw e refl; within = rw e (omega arith) }
      go false e more = found_later test x xs e (more (ap (λ b. b || list_any test xs) (sym e) ∙ h))

  pub position_at : (test : X → Bool) (xs : List X) → position_or_len test xs < length xs → position test xs ≡ Some (position_or_len test xs)
  position_at test xs lt = rw (lt-ltb (position_or_len test xs) (length xs) lt) refl

  pub all_at : (test : X → Bool) (xs : List X) (k : ℕ) (x : X) → list_all test xs ≡ true → slice_get xs k ≡ Some x → test x ≡ true
  all_at test [] k x h e = none_some x e
  all_at test (y ∷ ys) zero x h e = subst (λ z. test z ≡ true) (same_Some y x e) (and_parts (test y) (list_all test ys) h).0
  all_at test (y ∷ ys) (suc k) x h e = all_at test ys k x (and_parts (test y) (list_all test ys) h).1 e

  -- what all before a place pass
  pub all_before : (test : X → Bool) (xs : List X) (k : ℕ) (x : X) → list_all test (take (suc k) xs) ≡ true → slice_get xs k ≡ Some x → test x ≡ true
  all_before test [] k x h e = none_some x e
  all_before test (y ∷ ys) zero x h e = subst (λ z. test z ≡ true) (same_Some y x e) (and_parts (test y) true h).0
  all_before test (y ∷ ys) (suc k) x h e = all_before test ys k x (and_parts (test y) (list_all test (take (suc k) ys)) h).1 e

  -- behind the last there is nothing
  pub ends_at : (xs : List X) (k : ℕ) (x : X) → slice_get xs k ≡ Some x → slice_get xs (suc k) ≡ None → suc k ≡ length xs
  ends_at [] k x e n = none_some x e
  ends_at (y ∷ []) zero x e n = refl
  ends_at (y ∷ z ∷ ys) zero x e n = none_some z (sym n)
  ends_at (y ∷ ys) (suc k) x e n = ap suc (ends_at ys k x e n)
