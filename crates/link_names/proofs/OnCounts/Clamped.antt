-- A count that is cut at a number is past a lower limit exactly where the count is.
use Rattle.std.proofs.Common.{◌≡◌, ℕ, zero, suc, ◌+◌, ◌<◌, ◌≤◌, min, max, inl, inr, nat_lt, refl, sym, ap, ◌∙◌, arith, ◌*◌}
use Rattle.linkage_rules.proofs.OnResolving.Joined.{clamp_mul}
use Rattle.std.proofs.lemmas.Bool.{cases_lt, lt-ltb, le-ltb}
use Rattle.link_rules.specs.Counts.{count_of_aliases}

-- a limit below the cut is passed by a cut count exactly where it is passed
pub past_clamped : (cut limit n : ℕ) → limit < cut → nat_lt limit (min n cut) ≡ nat_lt limit n
past_clamped cut limit n small =
    elim (cases_lt limit n) [
      | inl over ↦
          let cut_over : limit < min n cut = omega (arith, small, over) in
          lt-ltb limit (min n cut) cut_over ∙ sym (lt-ltb limit n over)
      | inr under ↦
          let cut_under : min n cut ≤ limit = omega (arith, under) in
          le-ltb limit (min n cut) cut_under ∙ sym (le-ltb limit n under)
    ]

-- no aliases, and some
pub no_aliases : (variables functions aliases : ℕ) → aliases ≡ 0 → count_of_aliases variables functions aliases ≡ 0
no_aliases variables functions aliases none = ap (count_of_aliases variables functions) none

pub some_aliases : (variables functions aliases : ℕ) → 0 < aliases → count_of_aliases variables functions aliases ≡ aliases + max variables functions
some_aliases variables functions zero some = absurd (omega (arith, some))
some_aliases variables functions (suc n) some = refl

-- the greater of two that are cut is the greater, cut
max_clamped : (cut m n : ℕ) → max (min m cut) (min n cut) ≡ min (max m n) cut
max_clamped cut m n = omega arith

-- the greater of a length and its bytes, each cut
pub bytes_clamped : (cut length size : ℕ) → max (min length cut) (min (min length cut * size) cut) ≡ min (max length (length * size)) cut
bytes_clamped cut length size = ap (max (min length cut)) (clamp_mul cut length size) ∙ max_clamped cut length (length * size)
