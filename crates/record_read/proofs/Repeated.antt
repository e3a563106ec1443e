-- So many values one behind the other, as a loop reads them: what is read so far, and what is still to come.
use Rattle.std.proofs.Common.{◌≡◌, ◌⊎◌, ◌+◌, ℕ, zero, suc, true, false, List, [], ◌∷◌, ◌++◌, Option, inl, inr, refl, sym, subst, ◌∙◌, arith}
use Rattle.std.proofs.lemmas.List.{append_assoc, append-nil}
use Rattle.record_table.specs.Walk.{Walk, going, stopped}
use Rattle.record_table.specs.Layout.{many}
use Rattle.record_read.specs.Reader.{is_stopped}

-- these are read, and so many are to come
pub record IsSoFar {A : Type 0} (one : Walk → A × Walk) (first : Walk) (count : ℕ) (xs : List A) (n : ℕ) (now : Walk) : Type 0 where
  pub values : (many one count first).0 ≡ xs ++ (many one n now).0
  pub walk : (many one count first).1 ≡ (many one n now).1

-- nothing is read yet
pub begins : {A : Type 0} (one : Walk → A × Walk) (first : Walk) (count : ℕ) → IsSoFar one first count [] count first
begins one first count = record { values = refl; walk = refl }

-- one more, at a walk that goes on
more_going : {A : Type 0} (one : Walk → A × Walk) (first : Walk) (count : ℕ) (xs : List A) (m : ℕ) (rest : List ℕ) (broken : Option ℕ)
    → IsSoFar one first count xs (suc m) (going rest broken)
    → IsSoFar one first count (xs ++ (one (going rest broken)).0 ∷ []) m (one (going rest broken)).1
unfolding many
more_going one first count xs m rest broken h = record {
  values = h.values ∙ sym (append_assoc xs ((one (going rest broken)).0 ∷ []) (many one m (one (going rest broken)).1).0);
  walk = h.walk;
}

more_suc : {A : Type 0} (one : Walk → A × Walk) (first : Walk) (count : ℕ) (xs : List A) (m : ℕ) (now : Walk) → is_stopped now ≡ false
    → IsSoFar one first count xs (suc m) now → IsSoFar one first count (xs ++ (one now).0 ∷ []) m (one now).1
more_suc one first count xs m (going rest broken) goes h = more_going one first count xs m rest broken h
more_suc one first count xs m (stopped broken) goes h = absurd (cc)

pub more : {A : Type 0} (one : Walk → A × Walk) (first : Walk) (count : ℕ) (xs : List A) (n m : ℕ) (now : Walk) → n ≡ m + 1 → is_stopped now ≡ false
    → IsSoFar one first count xs n now → IsSoFar one first count (xs ++ (one now).0 ∷ []) m (one now).1
more one first count xs n m now is goes h =
    let next_is : n ≡ suc m = omega arith in
    more_suc one first count xs m now goes (subst (λ k. IsSoFar one first count xs k now) next_is h)

-- all are read
pub record IsAll {A : Type 0} (one : Walk → A × Walk) (first : Walk) (count : ℕ) (xs : List A) (now : Walk) : Type 0 where
  pub values : (many one count first).0 ≡ xs
  pub walk : (many one count first).1 ≡ now

over_zero : {A : Type 0} (one : Walk → A × Walk) (first : Walk) (count : ℕ) (xs : List A) (now : Walk)
    → IsSoFar one first count xs zero now → IsAll one first count xs now
unfolding many
over_zero one first count xs now h = record { values = h.values ∙ append-nil xs; walk = h.walk }

over_stopped : {A : Type 0} (one : Walk → A × Walk) (first : Walk) (count : ℕ) (xs : List A) (n : ℕ) (now : Walk) → is_stopped now ≡ true
    → IsSoFar one first count xs n now → IsAll one first count xs now
unfolding many
over_stopped one first count xs n (going rest broken) goes h = absurd (cc)
over_stopped one first count xs zero (stopped broken) goes h = record { values = h.values ∙ append-nil xs; walk = h.walk }
over_stopped one first count xs (suc n) (stopped broken) goes h = record { values = h.values ∙ append-nil xs; walk = h.walk }

pub over : {A : Type 0} (one : Walk → A × Walk) (first : Walk) (count : ℕ) (xs : List A) (n : ℕ) (now : Walk) → (n ≡ 0) ⊎ (is_stopped now ≡ true)
    → IsSoFar one first count xs n now → IsAll one first count xs now
over one first count xs n now (inl none) h = over_zero one first count xs now (subst (λ k. IsSoFar one first count xs k now) none h)
over one first count xs n now (inr stops) h = over_stopped one first count xs n now stops h
