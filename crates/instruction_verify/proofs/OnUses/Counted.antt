-- How often numbers stand in a list, one after the other.
use Rattle.std.proofs.Common.{◌≡◌, ◌≢◌, ℕ, ◌+◌, ◌<◌, ◌≤◌, eqb, List, take, length, get_or, set, refl, sym, ap, ◌∙◌, inl, inr, arith}
use Rattle.std.proofs.lemmas.Bool.{cases_eq, eq-eqb, ne_eqb}
use Rattle.std.proofs.lemmas.Grind.{get_or-set_at}
use Rattle.std.proofs.lemmas.List.{get_or-set_other, length-take-le}
use Rattle.std.proofs.lemmas.List.Sums.{count_by_more_no, count_by_more_yes, count_by-le-length, sum_by-take-le}
use Rattle.std.specs.Prelude.{cond}
use Rattle.instruction_verify.specs.Uses.Edges.{count_in}

module _ (xs : List ℕ) (i : ℕ) (lt : i < length xs) where
  abbrev here : ℕ
  here = get_or xs i 0

  pub one_more : (n : ℕ) → here ≡ n → count_in (take (i + 1) xs) n ≡ count_in (take i xs) n + 1
  one_more n e = count_by_more_yes (λ y. eqb y n) xs i 0 lt (eq-eqb here n e)

  pub no_more : (n : ℕ) → here ≢ n → count_in (take (i + 1) xs) n ≡ count_in (take i xs) n
  no_more n e = count_by_more_no (λ y. eqb y n) xs i 0 lt (ne_eqb here n e)

  -- it is there at least as often as in the front
  pub at_least : count_in (take i xs) here + 1 ≤ count_in xs here
  at_least = let l = sum_by-take-le (λ y. cond (eqb y here) 1 0) xs (i + 1) in let m = one_more here refl in omega (arith, l, m)

  -- it is in the front no more often than there are numbers
  pub at_most : count_in (take i xs) here ≤ i
  at_most = let l = count_by-le-length (λ y. eqb y here) (take i xs) in let m = length-take-le i xs (omega (arith, lt)) in omega (arith, l, m)

  module _ (counts : List ℕ) (known : here < length counts) where
    -- one number more is counted
    pub counted_next : (v : ℕ) → v ≡ get_or counts here 0 + 1 → ((n : ℕ) → get_or counts n 0 ≡ count_in (take i xs) n)
        → (n : ℕ) → get_or (set counts here v) n 0 ≡ count_in (take (i + 1) xs) n
    counted_next v e inv n = elim (cases_eq here n) [
      | inl same ↦
          let at = get_or-set_at counts here n v 0 (sym same) known in
          let before : get_or counts here 0 ≡ count_in (take i xs) n = inv here ∙ ap (count_in (take i xs)) same in
          let more = one_more n same in
          omega (arith, at, e, before, more)
      | inr other ↦ get_or-set_other counts here n v 0 (λ z. other (sym z)) ∙ inv n ∙ sym (no_more n other)
    ]

    -- one number more is taken back
    pub uncounted_next : (v : ℕ) → v + 1 ≡ get_or counts here 0 → ((n : ℕ) → get_or counts n 0 + count_in (take i xs) n ≡ count_in xs n)
        → (n : ℕ) → get_or (set counts here v) n 0 + count_in (take (i + 1) xs) n ≡ count_in xs n
    uncounted_next v e inv n = elim (cases_eq here n) [
      | inl same ↦
          let at = get_or-set_at counts here n v 0 (sym same) known in
          let before : get_or counts here 0 + count_in (take i xs) n ≡ count_in xs n = ap (λ k. get_or counts k 0 + count_in (take i xs) n) same ∙ inv n in
          let more = one_more n same in
          omega (arith, at, e, before, more)
      | inr other ↦
          let at = get_or-set_other counts here n v 0 (λ z. other (sym z)) in
          let same = no_more n other in
          omega (arith, at, inv n, same)
    ]
