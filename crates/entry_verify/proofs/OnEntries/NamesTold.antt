-- An entry is found by its name, since no two have one name, and by no empty name, since none has it.
use Rattle.std.proofs.Common.{◌≡◌, ℕ, zero, suc, Bool, true, false, ◌&&◌, ◌||◌, List, [], ◌∷◌, slice_get, Some, refl, sym, ap, ◌∙◌, arith, bytes_eq}
use Rattle.std.specs.List.{list_any}
use Rattle.std.specs.Cmp.Lexicographic.{bytes_decides}
use Rattle.std.proofs.lemmas.Bool.{false_from_ne_true}
use Rattle.std.proofs.lemmas.Option.{none-some, same_Some}
use Rattle.module_arena.specs.Module.{Bytes}

module _ {X : Type 0} (name : X → Bytes) (test : X → Bool) where
  -- no element has that name
  pub not_found : (xs : List X) (n : Bytes) → ((i : ℕ) (x : X) → slice_get xs i ≡ Some x → name x ≡ n → ⊥) → false ≡ list_any (λ (x : X). bytes_eq (name x) n && test x) xs
  not_found [] n other = refl
  not_found (x ∷ xs) n other =
      let differs : bytes_eq (name x) n ≡ false = false_from_ne_true (bytes_eq (name x) n) (λ e. other 0 x refl ((bytes_decides (name x) n).0 e)) in
      not_found xs n (λ i y at e. other (suc i) y at e) ∙ sym (ap (λ b. (b && test x) || list_any (λ (y : X). bytes_eq (name y) n && test y) xs) differs)

  -- one element alone has that name
  pub found_once : (xs : List X) (n : Bytes) (k : ℕ) (x : X) → slice_get xs k ≡ Some x → name x ≡ n
      → ((i : ℕ) (y : X) → slice_get xs i ≡ Some y → name y ≡ n → i ≡ k) → test x ≡ list_any (λ (y : X). bytes_eq (name y) n && test y) xs
  found_once [] n k x at here only = absurd (none-some x at)
  found_once (y ∷ xs) n zero x at here only =
      let same : y ≡ x = same_Some y x at in
      let rest = not_found xs n (λ i z there e. clash i (only (suc i) z there e)) in
      let is : bytes_eq (name y) n ≡ true = (bytes_decides (name y) n).1 (ap name same ∙ here) in
      sym ((λ j. (is j && test (same j)) || sym rest j) ∙ or_false (test x))
    where
      clash : (i : ℕ) → suc i ≡ zero → ⊥
      clash i e = absurd (omega (arith, e))

      or_false : (b : Bool) → (b || false) ≡ b
      or_false true = refl
      or_false false = refl
  found_once (y ∷ xs) n (suc k) x at here only =
      let differs : bytes_eq (name y) n ≡ false = false_from_ne_true (bytes_eq (name y) n) (λ e. clash (only 0 y refl ((bytes_decides (name y) n).0 e))) in
      found_once xs n k x at here (λ i z there e. less i (only (suc i) z there e)) ∙ sym (ap (λ b. (b && test y) || list_any (λ (z : X). bytes_eq (name z) n && test z) xs) differs)
    where
      clash : zero ≡ suc k → ⊥
      clash e = absurd (omega (arith, e))

      less : (i : ℕ) → suc i ≡ suc k → i ≡ k
      less i e = omega (arith, e)
