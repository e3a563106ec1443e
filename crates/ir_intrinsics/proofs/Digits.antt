-- Digits the other way round, one more at a time.
use Rattle.std.proofs.Common.{◌≡◌, ℕ, zero, suc, ◌+◌, ◌-◌, ◌*◌, ◌/◌, ◌%◌, ◌^◌, ◌<◌, ◌≤◌, refl, ap, sym, ◌∙◌, subst, arith, lit≤}
use Rattle.std.proofs.Math.Nat.{pow-le-pow_right, pow-succ', pow-zero, mul-le-mul_right, mul-le-mul_left}
use Rattle.std.proofs.lemmas.Nat.{mod_below, mul-add-lt, pow-add}
use Rattle.ir_eval.specs.Value.{IsWidth}
use Rattle.ir_intrinsics.specs.Results.{reversed_digits}

-- what is reversed so far, with the digits that are left behind it, is all
pub record IsSoFar (base count number left reversed rest : ℕ) : Type 0 where
  pub value : reversed * base ^ left + reversed_digits base left rest ≡ reversed_digits base count number
  pub few : (reversed + 1) * base ^ left ≤ base ^ count

pub none_yet : (base count number : ℕ) → IsSoFar base count number count 0 number
none_yet base count number = record { value = omega arith; few = omega arith }

pub all_done : (base count number reversed rest : ℕ) → IsSoFar base count number 0 reversed rest → reversed ≡ reversed_digits base count number
unfolding reversed_digits
all_done base count number reversed rest so = let e = so.value in let p = pow-zero base in let f = rw p at e in omega (arith, f)

value_more : (base left reversed rest all : ℕ) → reversed * base ^ suc left + reversed_digits base (suc left) rest ≡ all → (reversed * base + rest % base) * base ^ left + reversed_digits base left (rest / base) ≡ all
unfolding reversed_digits
value_more base left reversed rest all e = let p = pow-succ' base left in let f = rw p at e in omega (arith, f)

few_more : (base left reversed rest all : ℕ) → 0 < base → (reversed + 1) * base ^ suc left ≤ all → (reversed * base + rest % base + 1) * base ^ left ≤ all
few_more base left reversed rest all some h =
    let p = pow-succ' base left in
    let f = rw p at h in
    let digit = mod_below rest base some in
    let small : reversed * base + rest % base + 1 ≤ (reversed + 1) * base = omega (arith, digit) in
    let scaled = mul-le-mul_right (base ^ left) small in
    omega (arith, f, scaled)

more_suc : (base count number left reversed rest : ℕ) → 0 < base → IsSoFar base count number (suc left) reversed rest → IsSoFar base count number left (reversed * base + rest % base) (rest / base)
more_suc base count number left reversed rest some so =
    record { value = value_more base left reversed rest _ so.value; few = few_more base left reversed rest _ some so.few }

pub one_more : (base count number left reversed rest : ℕ) → 0 < base → 0 < left → IsSoFar base count number left reversed rest → IsSoFar base count number (left - 1) (reversed * base + rest % base) (rest / base)
one_more base count number left reversed rest some more so =
    let e : left ≡ suc (left - 1) = omega (arith, more) in
    more_suc base count number (left - 1) reversed rest some (subst (λ n. IsSoFar base count number n reversed rest) e so)

pow_some : (base k : ℕ) → 0 < base → 1 ≤ base ^ k
pow_some base zero some = let p = pow-zero base in omega (arith, p)
pow_some base (suc k) some = let p = pow-succ' base k in let h = pow_some base k some in let m = mul-le-mul_left base h in omega (arith, p, h, m, some)

-- one digit more still fits
pub fits_more : (base count number left reversed rest : ℕ) → 0 < base → 0 < left → base ^ count ≤ 2 ^ 128 → IsSoFar base count number left reversed rest → reversed * base + rest % base < 2 ^ 128
fits_more base count number left reversed rest some more room so =
    let next = one_more base count number left reversed rest some more so in
    let positive = pow_some base (left - 1) some in
    let wide = mul-le-mul_left (reversed * base + rest % base + 1) positive in
    let few = next.few in
    omega (arith, wide, few, room)

-- the digits are a number of as many digits
pub reversed_below : (base count number : ℕ) → 0 < base → reversed_digits base count number < base ^ count
unfolding reversed_digits
reversed_below base zero number some = let p = pow-zero base in omega (arith, p)
reversed_below base (suc count) number some =
    let p = pow-succ' base count in
    let below = mul-add-lt (number % base) (base ^ count) (reversed_digits base count (number / base)) base (mod_below number base some) (reversed_below base count (number / base) some) in
    omega (arith, p, below)

pub bits_fit : (width : ℕ) → IsWidth width → 2 ^ width ≤ 2 ^ 128
bits_fit width w = pow-le-pow_right (lit≤ tt) w.most

bytes_are : (count : ℕ) → 256 ^ count ≡ 2 ^ (8 * count)
bytes_are zero = refl
bytes_are (suc count) =
    let p = pow-succ' 256 count in
    let q = pow-add 2 8 (8 * count) in
    let e : 8 * suc count ≡ 8 + 8 * count = omega arith in
    let r = bytes_are count in
    p ∙ ap (λ n. 256 * n) r ∙ sym q ∙ ap (λ n. 2 ^ n) (sym e)

pub bytes_within : (width : ℕ) → 256 ^ (width / 8) ≤ 2 ^ width
bytes_within width = rw bytes_are (pow-le-pow_right (lit≤ tt) (omega arith))

pub bytes_fit : (width : ℕ) → IsWidth width → 256 ^ (width / 8) ≤ 2 ^ 128
bytes_fit width w = let a = bytes_within width in let b = bits_fit width w in omega (arith, a, b)
