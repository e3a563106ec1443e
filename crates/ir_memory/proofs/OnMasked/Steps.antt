-- One more mark is put in a loop.
use Rattle.std.proofs.Common.{◌≡◌, ℕ, ◌+◌, ◌-◌, ◌<◌, ◌≤◌, Bool, ap, ◌∙◌, inl, inr, arith, ◌⊎◌}
use Rattle.std.specs.Prelude.{◌==◌, if◌then◌else◌}
use Rattle.std.proofs.lemmas.Bool.{cases_eq}
use Rattle.std.proofs.lemmas.Bool.Decides.{nat_tests}
use Rattle.ir_memory.specs.Masked.Masked.{is_within}

-- upwards
pub step_up : (others before : ℕ → Bool) (mid new to : Bool) (at from k q : ℕ) → to ≡ others (from + k) → mid ≡ (if is_within at (at + k) q then others (from + (q - at)) else before q) → new ≡ (if q == at + k then to else mid) → new ≡ (if is_within at (at + (k + 1)) q then others (from + (q - at)) else before q)
step_up others before mid new to at from k q is was now = elim (cases_eq q (at + k)) [
  | inl e ↦
      let place : from + k ≡ from + (q - at) = omega (arith, e) in
      let this : new ≡ others (from + (q - at)) = now ∙ grind (arith, nat_tests) ∙ is ∙ ap others place in
      this ∙ grind (arith, nat_tests)
  | inr n ↦ now ∙ grind (arith, nat_tests)
]

-- downwards
pub step_down : (others before : ℕ → Bool) (mid new to : Bool) (at from left more end q : ℕ) → more ≡ left + 1 → left < end → to ≡ others (from + left) → mid ≡ (if is_within (at + more) (at + end) q then others (from + (q - at)) else before q) → new ≡ (if q == at + left then to else mid) → new ≡ (if is_within (at + left) (at + end) q then others (from + (q - at)) else before q)
step_down others before mid new to at from left more end q next below is was now = elim (cases_eq q (at + left)) [
  | inl e ↦
      let place : from + left ≡ from + (q - at) = omega (arith, e) in
      let this : new ≡ others (from + (q - at)) = now ∙ grind (arith, nat_tests) ∙ is ∙ ap others place in
      this ∙ grind (arith, nat_tests)
  | inr n ↦ now ∙ grind (arith, nat_tests)
]

-- a mark outside of what was written is as before
pub outside : (before : ℕ → Bool) (mark : Bool) (low high q : ℕ) (value : Bool) → (q < low ⊎ high ≤ q) → mark ≡ (if is_within low high q then value else before q) → mark ≡ before q
outside before mark low high q value (inl h) was = was ∙ grind (arith, nat_tests)
outside before mark low high q value (inr h) was = was ∙ grind (arith, nat_tests)
