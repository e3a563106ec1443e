-- The function whose body is the next, function by function.
use Rattle.std.proofs.Common.{◌≡◌, ◌<◌, ◌≤◌, ◌+◌, ℕ, zero, suc, Bool, true, false, ◌&&◌, cond, Some, None, List, ◌∷◌, length, get_or, drop, nat_eq, refl, sym, ap, ◌∙◌, arith, drop-cons, add-one}
use Rattle.std.proofs.lemmas.Bool.{eq-eqb, eqb-true}
use Rattle.std.proofs.lemmas.List.{at_drop_all}
use Rattle.record_read.specs.Order.Due.{due_at}

-- so many that are defined were passed, and the function is the one that is sought behind them
pub record IsSought (defined : List Bool) (came passed place : ℕ) : Type 0 where
  pub left : ℕ
  pub sum : left + passed ≡ came
  pub few : passed ≤ place
  pub is : due_at (drop place defined) left place ≡ due_at defined came 0

pub begins : (defined : List Bool) (came : ℕ) → IsSought defined came 0 0
begins defined came = record { left = came; sum = omega arith; few = omega arith; is = refl }

module _ (defined : List Bool) (came passed place : ℕ) (is : Bool) (h : IsSought defined came passed place) (lt : place < length defined) (at : is ≡ get_or defined place false) where
  split : drop place defined ≡ is ∷ drop (suc place) defined
  split = drop-cons defined place false lt ∙ ap (λ b. b ∷ drop (suc place) defined) (sym at)

  abbrev IsSplit : Bool → Type 0
  IsSplit b = drop place defined ≡ b ∷ drop (suc place) defined

  pub goes_on : (more : ℕ) → (is && nat_eq passed came) ≡ false → more ≡ cond is 1 0 → IsSought defined came (passed + more) (place + 1)
  goes_on more other one = by is h.left h.sum h.few h.is split other one
    where
      by : (b : Bool) (left : ℕ) → left + passed ≡ came → passed ≤ place → due_at (drop place defined) left place ≡ due_at defined came 0 → IsSplit b → (b && nat_eq passed came) ≡ false → more ≡ cond b 1 0
          → IsSought defined came (passed + more) (place + 1)
      by false left sum few is s other one =
          let none : more ≡ 0 = one in
          record {
            left = left;
            sum = omega (arith, sum, none);
            few = omega (arith, few, none);
            is = ap (λ k. due_at (drop k defined) left k) (add-one place) ∙ (sym (ap (λ l. due_at l left place) s) ∙ is);
          }
      by true zero sum few is s other one =
          let yes : nat_eq passed came ≡ true = eq-eqb passed came (omega (arith, sum)) in
          let no : nat_eq passed came ≡ false = other in
          absurd (cc)
      by true (suc left) sum few is s other one =
          let more_is : more ≡ 1 = one in
          record {
            left = left;
            sum = omega (arith, sum, more_is);
            few = omega (arith, few, more_is);
            is = ap (λ k. due_at (drop k defined) left k) (add-one place) ∙ (sym (ap (λ l. due_at l (suc left) place) s) ∙ is);
          }

  pub found : (is && nat_eq passed came) ≡ true → due_at defined came 0 ≡ Some place
  found next = by is h.left h.sum h.is split next
    where
      by : (b : Bool) (left : ℕ) → left + passed ≡ came → due_at (drop place defined) left place ≡ due_at defined came 0 → IsSplit b → (b && nat_eq passed came) ≡ true → due_at defined came 0 ≡ Some place
      by false left sum is s next = absurd (cc)
      by true zero sum is s next = sym is ∙ ap (λ l. due_at l zero place) s
      by true (suc left) sum is s next = let same : passed ≡ came = eqb-true passed came next in absurd (omega (arith, sum, same))

pub none_left : (defined : List Bool) (came passed place : ℕ) → IsSought defined came passed place → place ≡ length defined → due_at defined came 0 ≡ None
none_left defined came passed place h all = sym h.is ∙ at_drop_all (λ l. due_at l h.left place) defined place (omega (arith, all))
