-- Alignments are the powers of two up to 2^16.
use Rattle.std.proofs.Common.{◌≡◌, ℕ, zero, suc, ◌≤◌, ◌<◌, ◌+◌, ◌^◌, List, [], ◌∷◌, true, inl, inr, sym, subst, arith}
use Rattle.std.specs.Prelude.{nat_eq}
use Rattle.std.specs.List.{list_any}
use Rattle.std.proofs.lemmas.Bool.Decides.{eqb_tells}
use Rattle.std.proofs.lemmas.Bool.{or_cases, or_left, or_right, eqb-true, eq-eqb}
use Rattle.module_arena.specs.EntryRules.{AlignmentsArePowers}

-- so many powers of two, from this one on
abbrev powers : ℕ → ℕ → List ℕ
powers k zero = []
powers k (suc count) = 2 ^ k ∷ powers (suc k) count

-- what is among them is one
is_power : (n count k : ℕ) → list_any (nat_eq n) (powers k count) ≡ true → (j : ℕ) × (j < k + count) × (n ≡ 2 ^ j)
is_power n zero k h = absurd cc
is_power n (suc count) k h = elim (or_cases (nat_eq n (2 ^ k)) (list_any (nat_eq n) (powers (suc k) count)) h) [
  | inl e ↦ (k, omega arith, eqb-true n (2 ^ k) e)
  | inr e ↦ let (j, less, same) = is_power n count (suc k) e in (j, omega (arith, less), same)
]

-- and each of them is among them
is_among : (n count k j : ℕ) → k ≤ j → j < k + count → n ≡ 2 ^ j → list_any (nat_eq n) (powers k count) ≡ true
is_among n zero k j from less same = absurd (omega (arith, from, less))
is_among n (suc count) k j from less same = elim (eqb_tells k j) [
  | inl e ↦ or_left (nat_eq n (2 ^ k)) (list_any (nat_eq n) (powers (suc k) count)) (eq-eqb n (2 ^ k) (subst (λ i. n ≡ 2 ^ i) (sym e.1) same))
  | inr e ↦ or_right (nat_eq n (2 ^ k)) (list_any (nat_eq n) (powers (suc k) count)) (is_among n count (suc k) j (let other = e.1 in omega (arith, from, other)) (omega (arith, less)) same)
]

pub alignments_are_powers : AlignmentsArePowers
alignments_are_powers n = (
  (λ h. let (k, less, same) = is_power n 17 0 h in (k, omega (arith, less), same)),
  (λ p. is_among n 17 0 p.0 (omega arith) (let most = p.1 in omega (arith, most)) p.2),
)
