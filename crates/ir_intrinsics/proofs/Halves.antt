-- Shifts of two numbers as one of twice the width.
use Rattle.std.proofs.Common.{◌≡◌, ℕ, ◌+◌, ◌-◌, ◌*◌, ◌/◌, ◌%◌, ◌^◌, ◌<◌, ◌≤◌, bit_or, ap, sym, ◌∙◌, subst, arith, lit≤}
use Rattle.std.proofs.Math.Nat.{pow-le-pow_right, mul-div-mul_right, add-mul-div_right, mod-eq_of_lt, div-eq_of_lt, mod-one, div-one}
use Rattle.std.proofs.lemmas.Nat.{pow-add, pow_pos, field_of, mod-pow-add, div-mul-add, mod-mul-add, shr_below, or_shifted, mod_below, shl_below}
use Rattle.ir_eval.specs.Value.{IsWidth}
use Rattle.ir_intrinsics.specs.Results.{shifted_up_of, shifted_down_of, joined_of}

-- the high bits of a number
high_bits : (width low up : ℕ) → up ≤ width → low < 2 ^ width → low / 2 ^ (width - up) < 2 ^ up
high_bits width low up few below =
    let e : up + (width - up) ≡ width = omega (arith, few) in
    shr_below low up (width - up) (subst (λ n. low < 2 ^ n) (sym e) below)

-- the low bits of a number below its width, above others
above_low : (width high t up : ℕ) → up ≤ width → t < 2 ^ up → (high * 2 ^ up + t) % 2 ^ width ≡ (high % 2 ^ (width - up)) * 2 ^ up + t
above_low width high t up few below =
    let e : width ≡ width - up + up = omega (arith, few) in
    ap (λ n. (high * 2 ^ up + t) % 2 ^ n) e
    ∙ mod-pow-add (high * 2 ^ up + t) (width - up) up
    ∙ ap (λ n. (n % 2 ^ (width - up)) * 2 ^ up + (high * 2 ^ up + t) % 2 ^ up) (div-mul-add high (2 ^ up) t below)
    ∙ ap (λ n. (high % 2 ^ (width - up)) * 2 ^ up + n) (mod-mul-add high (2 ^ up) t below)

-- the bits of both halves from a place on
from_place : (width high low down : ℕ) → down ≤ width → joined_of width high low / 2 ^ down ≡ high * 2 ^ (width - down) + low / 2 ^ down
from_place width high low down few =
    let e : width ≡ width - down + down = omega (arith, few) in
    let p : 2 ^ width ≡ 2 ^ (width - down) * 2 ^ down = ap (λ n. 2 ^ n) e ∙ pow-add 2 (width - down) down in
    let m : high * 2 ^ width + low ≡ high * (2 ^ (width - down) * 2 ^ down) + low = ap (λ n. high * n + low) p in
    let q : high * 2 ^ width + low ≡ low + (high * 2 ^ (width - down)) * 2 ^ down = omega (arith, m) in
    let r = add-mul-div_right low (high * 2 ^ (width - down)) (pow_pos down) in
    let s = ap (λ n. n / 2 ^ down) q ∙ r in
    omega (arith, s)

pub down_by : (width high low down : ℕ) → down ≤ width → low < 2 ^ width → shifted_down_of width high low down ≡ (high % 2 ^ down) * 2 ^ (width - down) + low / 2 ^ down
down_by width high low down few below =
    let e : width - (width - down) ≡ down = omega (arith, few) in
    let small : low / 2 ^ down < 2 ^ (width - down) = (let t = high_bits width low (width - down) (omega arith) below in subst (λ n. low / 2 ^ n < 2 ^ (width - down)) e t) in
    ap (λ n. n % 2 ^ width) (from_place width high low down few)
    ∙ above_low width high (low / 2 ^ down) (width - down) (omega arith) small
    ∙ ap (λ n. (high % 2 ^ n) * 2 ^ (width - down) + low / 2 ^ down) e

-- a shift up, and the high half of what it gives, is a shift down to the other end
up_is_down : (width high low up : ℕ) → up ≤ width → shifted_up_of width high low up ≡ shifted_down_of width high low (width - up)
up_is_down width high low up few =
    let e : width ≡ width - up + up = omega (arith, few) in
    let p : 2 ^ width ≡ 2 ^ (width - up) * 2 ^ up = ap (λ n. 2 ^ n) e ∙ pow-add 2 (width - up) up in
    field_of (joined_of width high low * 2 ^ up) width width
    ∙ ap (λ n. joined_of width high low * 2 ^ up / n % 2 ^ width) p
    ∙ ap (λ n. n % 2 ^ width) (mul-div-mul_right (joined_of width high low) (2 ^ (width - up)) (pow_pos up))

pub up_by : (width high low up : ℕ) → up ≤ width → low < 2 ^ width → shifted_up_of width high low up ≡ (high % 2 ^ (width - up)) * 2 ^ up + low / 2 ^ (width - up)
up_by width high low up few below =
    let e : width - (width - up) ≡ up = omega (arith, few) in
    up_is_down width high low up few
    ∙ down_by width high low (width - up) (omega arith) below
    ∙ ap (λ n. (high % 2 ^ (width - up)) * 2 ^ n + low / 2 ^ (width - up)) e

whole : (width n : ℕ) → n < 2 ^ width → n % 2 ^ width ≡ n
whole width n below = mod-eq_of_lt below

-- no shift
pub up_by_none : (width high low : ℕ) → high < 2 ^ width → low < 2 ^ width → shifted_up_of width high low 0 ≡ high
up_by_none width high low is_high is_low =
    let e : width - 0 ≡ width = omega arith in
    let none : low / 2 ^ width ≡ 0 = div-eq_of_lt is_low in
    let all = whole width high is_high in
    let u = up_by width high low 0 (omega arith) is_low in
    let v = rw e at u in
    let w = rw (all, none) at v in
    omega (arith, w)

pub down_by_none : (width high low : ℕ) → low < 2 ^ width → shifted_down_of width high low 0 ≡ low
down_by_none width high low is_low =
    let none : high % 2 ^ 0 ≡ 0 = mod-one high in
    let all : low / 2 ^ 0 ≡ low = div-one low in
    down_by width high low 0 (omega arith) is_low ∙ ap (λ n. n * 2 ^ (width - 0) + low / 2 ^ 0) none ∙ ap (λ n. 0 * 2 ^ (width - 0) + n) all ∙ omega arith

-- the joining of the code, for a shift down
pub down_from_up : (width high low down : ℕ) → down ≤ width → low < 2 ^ width → (high % 2 ^ (width - (width - down))) * 2 ^ (width - down) + low / 2 ^ (width - (width - down)) ≡ shifted_down_of width high low down
down_from_up width high low down few below =
    let e : width - (width - down) ≡ down = omega (arith, few) in
    ap (λ n. (high % 2 ^ n) * 2 ^ (width - down) + low / 2 ^ n) e ∙ sym (down_by width high low down few below)

-- what the code joins
pub joined_is : (width high low up : ℕ) → IsWidth width → up < width → low < 2 ^ width → bit_or ((high % 2 ^ (width - up)) * 2 ^ up % 2 ^ 128) (low / 2 ^ (width - up)) ≡ (high % 2 ^ (width - up)) * 2 ^ up + low / 2 ^ (width - up)
joined_is width high low up w few below =
    let e : width - up + up ≡ width = omega (arith, few) in
    let part = mod_below high (2 ^ (width - up)) (pow_pos (width - up)) in
    let shifted = shl_below (high % 2 ^ (width - up)) (width - up) up part in
    let shifted_in : (high % 2 ^ (width - up)) * 2 ^ up < 2 ^ width = rw e at shifted in
    let word : 2 ^ width ≤ 2 ^ 128 = pow-le-pow_right (lit≤ tt) w.most in
    let fits : (high % 2 ^ (width - up)) * 2 ^ up % 2 ^ 128 ≡ (high % 2 ^ (width - up)) * 2 ^ up = mod-eq_of_lt (omega (arith, shifted_in, word)) in
    ap (λ n. bit_or n (low / 2 ^ (width - up))) fits ∙ or_shifted (high % 2 ^ (width - up)) up (low / 2 ^ (width - up)) (high_bits width low up (omega arith) below)
