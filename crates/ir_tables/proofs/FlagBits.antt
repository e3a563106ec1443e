-- A set of flags as bits.
use Rattle.std.proofs.Common.{◌≡◌, ◌≢◌, ℕ, ◌+◌, ◌*◌, ◌^◌, ◌<◌, ◌≤◌, ◌↔◌, ◌⊎◌, inl, inr, true, false, not, cond, nat_eq, bit_and, bit_or, refl, ap, ◌∙◌, arith, lit<, Option, Some, slice_get}
use Rattle.std.proofs.lemmas.Nat.{or_disjoint, or_lt, pow_below, pow_pos}
use Rattle.std.proofs.lemmas.Nat.Bits.{and_pow, bit_at_or, bit_at-pow_same, bit_at-pow_other, bit_at-lt, same_from_bits}
use Rattle.std.proofs.lemmas.Bool.{cases_eq, eq-eqb, ne_eqb}
use Rattle.std.specs.Int.{bit_at}
use Rattle.ir_tables.specs.declared.flag.Flag.{Flag}
use Rattle.ir_tables.specs.declared.flag.Flag.TheVariants.{Nuw, Nsw, Exact, Disjoint, Nneg, Samesign, Inbounds, Nusw, Volatile}
use Rattle.ir_tables.specs.Flag.{flag_code, flags}
use Rattle.ir_tables.specs.Flags.{has_flag, flags_with}

or_set : (n k : ℕ) → bit_at n k ≡ 1 → bit_or n (2 ^ k) ≡ n
or_set n k set = same_from_bits (bit_or n (2 ^ k)) n (λ i. or_bit i (cases_eq i k)) where
  or_bit : (i : ℕ) → (i ≡ k) ⊎ (i ≡ k → ⊥) → bit_at (bit_or n (2 ^ k)) i ≡ bit_at n i
  or_bit i (inl e) =
      let o = bit_at_or n (2 ^ k) i in
      let p = bit_at-pow_same k in
      let at_n : bit_at n i ≡ 1 = ap (bit_at n) e ∙ set in
      let at_p : bit_at (2 ^ k) i ≡ 1 = ap (bit_at (2 ^ k)) e ∙ p in
      omega (arith, o)
  or_bit i (inr e) = let o = bit_at_or n (2 ^ k) i in let p = bit_at-pow_other k i e in omega (arith, o)

or_clear : (n k : ℕ) → bit_at n k ≢ 1 → bit_or n (2 ^ k) ≡ n + 2 ^ k
or_clear n k clear =
    let below = bit_at-lt n k in
    let none : bit_at n k ≡ 0 = omega arith in
    or_disjoint n (2 ^ k) (omega (arith, and_pow n k ∙ ap (λ b. b * 2 ^ k) none))

flag_place : Flag → ℕ
flag_place Nuw = 0
flag_place Nsw = 1
flag_place Exact = 2
flag_place Disjoint = 3
flag_place Nneg = 4
flag_place Samesign = 5
flag_place Inbounds = 6
flag_place Nusw = 7
flag_place Volatile = 8

flag_code_is : (flag : Flag) → flag_code flag ≡ 2 ^ flag_place flag
unfolding flag_place
flag_code_is Nuw = refl
flag_code_is Nsw = refl
flag_code_is Exact = refl
flag_code_is Disjoint = refl
flag_code_is Nneg = refl
flag_code_is Samesign = refl
flag_code_is Inbounds = refl
flag_code_is Nusw = refl
flag_code_is Volatile = refl

flag_place_below : (flag : Flag) → flag_place flag < 9
unfolding flag_place
flag_place_below Nuw = lit< tt
flag_place_below Nsw = lit< tt
flag_place_below Exact = lit< tt
flag_place_below Disjoint = lit< tt
flag_place_below Nneg = lit< tt
flag_place_below Samesign = lit< tt
flag_place_below Inbounds = lit< tt
flag_place_below Nusw = lit< tt
flag_place_below Volatile = lit< tt

flag_at : ℕ → Option Flag
flag_at place = slice_get flags place

flag_at_place : (flag : Flag) → flag_at (flag_place flag) ≡ Some flag
unfolding flag_at flag_place
flag_at_place Nuw = refl
flag_at_place Nsw = refl
flag_at_place Exact = refl
flag_at_place Disjoint = refl
flag_at_place Nneg = refl
flag_at_place Samesign = refl
flag_at_place Inbounds = refl
flag_at_place Nusw = refl
flag_at_place Volatile = refl

same_flag : (a b : Flag) → flag_place a ≡ flag_place b → a ≡ b
same_flag a b e = let x = flag_at_place a in let y = flag_at_place b in let z = ap flag_at e in cc

-- the test of the code
pub and_flag : (n : ℕ) (flag : Flag) → not (nat_eq (bit_and n (flag_code flag)) 0) ≡ has_flag n flag
and_flag n flag = rw flag_code_is (by_cases (cases_eq (bit_at n (flag_place flag)) 1)) where
  by_cases : (bit_at n (flag_place flag) ≡ 1) ⊎ (bit_at n (flag_place flag) ≡ 1 → ⊥) → not (nat_eq (bit_and n (2 ^ flag_place flag)) 0) ≡ nat_eq (bit_at n (flag_place flag)) 1
  by_cases (inl set) =
      let positive = pow_pos (flag_place flag) in
      let joined : bit_and n (2 ^ flag_place flag) ≡ 1 * 2 ^ flag_place flag = and_pow n _ ∙ ap (λ b. b * 2 ^ flag_place flag) set in
      let t = eq-eqb _ _ set in
      let u : nat_eq (bit_and n (2 ^ flag_place flag)) 0 ≡ false = ne_eqb _ _ (λ e. omega arith) in
      rw (t, u)
  by_cases (inr clear) =
      let below = bit_at-lt n (flag_place flag) in
      let none : bit_at n (flag_place flag) ≡ 0 = omega arith in
      let joined : bit_and n (2 ^ flag_place flag) ≡ 0 * 2 ^ flag_place flag = and_pow n _ ∙ ap (λ b. b * 2 ^ flag_place flag) none in
      let t = ne_eqb _ _ clear in
      let u : nat_eq (bit_and n (2 ^ flag_place flag)) 0 ≡ true = eq-eqb _ _ (omega arith) in
      rw (t, u)

-- the sum that the code makes
pub or_flag : (n : ℕ) (flag : Flag) → bit_or n (flag_code flag) ≡ flags_with n flag
or_flag n flag = rw flag_code_is (by_cases (cases_eq (bit_at n (flag_place flag)) 1)) where
  by_cases : (bit_at n (flag_place flag) ≡ 1) ⊎ (bit_at n (flag_place flag) ≡ 1 → ⊥) → bit_or n (2 ^ flag_place flag) ≡ cond (nat_eq (bit_at n (flag_place flag)) 1) n (n + 2 ^ flag_place flag)
  by_cases (inl set) = let t = eq-eqb _ _ set in rw t (or_set n _ set)
  by_cases (inr clear) = let t = ne_eqb _ _ clear in rw t (or_clear n _ clear)

pub or_flag_bound : (n : ℕ) (flag : Flag) → n ≤ 511 → bit_or n (flag_code flag) ≤ 511
or_flag_bound n flag bound =
    let power : flag_code flag < 2 ^ 9 = rw flag_code_is (pow_below (flag_place flag) 9 (flag_place_below flag)) in
    let joined = or_lt 9 n (flag_code flag) (omega arith) power in
    omega arith

-- exactly the flag is added
pub has_flag-with : (n : ℕ) (flag other : Flag) → (has_flag (flags_with n flag) other ≡ true) ↔ ((has_flag n other ≡ true) ⊎ (other ≡ flag))
has_flag-with n flag other = rw (← or_flag n flag, flag_code_is other, flag_code_is flag) (by_cases (cases_eq (flag_place other) (flag_place flag))) where
  k : ℕ
  k = flag_place flag

  j : ℕ
  j = flag_place other

  by_cases : (flag_place other ≡ flag_place flag) ⊎ (flag_place other ≡ flag_place flag → ⊥) → (nat_eq (bit_at (bit_or n (2 ^ flag_place flag)) (flag_place other)) 1 ≡ true) ↔ ((nat_eq (bit_at n (flag_place other)) 1 ≡ true) ⊎ (other ≡ flag))
  by_cases (inl e) =
      let same = same_flag other flag e in
      let o = bit_at_or n (2 ^ flag_place flag) (flag_place other) in
      let p = bit_at-pow_same (flag_place flag) in
      let at_p : bit_at (2 ^ flag_place flag) (flag_place other) ≡ 1 = ap (bit_at (2 ^ flag_place flag)) e ∙ p in
      let below = bit_at-lt n (flag_place other) in
      (λ has. inr same, λ either. eq-eqb _ _ (omega (arith, o)))
  by_cases (inr e) =
      let o = bit_at_or n (2 ^ flag_place flag) (flag_place other) in
      let p = bit_at-pow_other (flag_place flag) (flag_place other) e in
      let same : bit_at (bit_or n (2 ^ flag_place flag)) (flag_place other) ≡ bit_at n (flag_place other) = omega (arith, o) in
      (λ has. inl (rw (← same) has), λ either. elim either [ inl has ↦ rw same has | inr is ↦ absurd (e (ap flag_place is)) ])
