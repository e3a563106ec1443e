-- Numbers as bytes.
use Rattle.std.proofs.Common.{◌≡◌, ℕ, zero, suc, ◌+◌, ◌-◌, ◌*◌, ◌/◌, ◌%◌, ◌^◌, ◌<◌, ◌≤◌, List, [], ◌∷◌, length, drop, get_or, map, refl, ap, ◌∙◌, arith, Some, None, Option, drop-cons, add-one, lit≤, pow-add}
use Rattle.std.proofs.Math.Nat.{pow-le-pow_right, pow-succ'}
use Rattle.ir_memory.specs.Masked.Masked.{digit, joined, number_of, number_of_bytes}

-- a shift by bits is a shift by bytes
pub shift : (place : ℕ) → 2 ^ (8 * place) ≡ 256 ^ place
shift zero = refl
shift (suc place) =
    let e : 8 * suc place ≡ 8 + 8 * place = omega arith in
    let f = pow-add 2 8 (8 * place) in
    let g : 256 ^ suc place ≡ 256 * 256 ^ place = pow-succ' 256 place in
    rw (e, f, g) (ap (λ n. 256 * n) (shift place))

pub digit_shift : (number place : ℕ) → number / 2 ^ (8 * place) % 256 ≡ digit number place
digit_shift number place = ap (λ n. number / n % 256) (shift place)

pub below_more : (n b k m : ℕ) → n < 256 ^ k → b < 256 → m ≡ k + 1 → n * 256 + b < 256 ^ m
below_more n b k m h l e = rw (e, add-one k, pow-succ' 256 k) (omega arith)

below_all : (n k : ℕ) → n < 256 ^ k → k ≤ 16 → n < 2 ^ 128
below_all n k h l =
    let more : 256 ^ k ≤ 256 ^ 16 = pow-le-pow_right (lit≤ tt) l in omega (arith, more, h)

pub times_fits : (n k : ℕ) → n < 256 ^ k → k + 1 ≤ 16 → n * 256 + 255 < 2 ^ 128
times_fits n k h l = below_all (n * 256 + 255) (k + 1) (below_more n 255 k (k + 1) h (lit≤ tt) refl) l

pub number-step : (bs : List ℕ) (left number : ℕ) → 1 ≤ left → left ≤ length bs → number_of_bytes (drop left bs) ≡ number → number_of_bytes (drop (left - 1) bs) ≡ number * 256 + get_or bs (left - 1) 0
number-step bs left number some within e =
    let next : suc (left - 1) ≡ left = omega arith in
    let more = ap number_of_bytes (drop-cons bs (left - 1) 0 (omega arith)) ∙ ap (λ n. get_or bs (left - 1) 0 + 256 * number_of_bytes (drop n bs)) next in
    omega (arith, more, e)

-- what no poison is in spells a number
pub number_of-some : (bs : List ℕ) → number_of (map (λ b. Some b) bs) ≡ Some (number_of_bytes bs)
number_of-some [] = refl
number_of-some (b ∷ bs) = ap (λ r. joined (Some b) r) (number_of-some bs)

-- poison spoils all
pub number_of-none : (bs : List (Option ℕ)) (k : ℕ) → k < length bs → get_or bs k (Some 0) ≡ None → number_of bs ≡ None
number_of-none [] k h e = absurd (omega (arith, h))
number_of-none (b ∷ bs) zero h e = ap (λ o. joined o (number_of bs)) e
number_of-none (b ∷ bs) (suc k) h e = ap (λ r. joined b r) (number_of-none bs k (omega (arith, h)) e) ∙ none b
  where
    none : (o : Option ℕ) → joined o None ≡ None
    none None = refl
    none (Some n) = refl
