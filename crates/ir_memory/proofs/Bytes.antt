-- Bytes of numbers.
use Rattle.std.proofs.Common.{◌≡◌, ℕ, zero, suc, ◌+◌, ◌-◌, ◌*◌, ◌/◌, ◌%◌, ◌^◌, ◌<◌, ◌≤◌, List, [], ◌∷◌, length, drop, get_or, refl, sym, ap, ◌∙◌, arith, Some, None, Option, ◌&&◌, drop-cons, add-one, lit≤}
use Rattle.std.proofs.Math.Nat.{pow-le-pow_right, div-eq_of_lt, mod-eq_of_lt}
use Rattle.ir_memory.specs.declared.cell.Cell.{Cell}
use Rattle.ir_eval.specs.declared.value.Pointer.{Pointer}
use Rattle.ir_memory.specs.Masked.Masked.{joined}
use Rattle.ir_memory.proofs.OnMasked.Numbers.{shift}
use Rattle.ir_memory.specs.Cell.{byte_at, byte_of, number_of, is_piece, are_pieces}

pub byte_high : (number place : ℕ) → number < 2 ^ 128 → 16 ≤ place → 0 ≡ byte_at number place
byte_high number place fits high =
    let more : 256 ^ 16 ≤ 256 ^ place = pow-le-pow_right (lit≤ tt) high in
    let less : number < 256 ^ place = omega (arith, more, fits) in
    rw (div-eq_of_lt less) refl

-- a number of whole bytes is cut nowhere
pub whole_bytes : (number width : ℕ) → number < 256 ^ ((width + 7) / 8) → width % 8 ≡ 0 → number ≡ number % 2 ^ width
whole_bytes number width fits whole =
    let count : 8 * ((width + 7) / 8) ≡ width = omega (arith, whole) in
    let power : 2 ^ width ≡ 256 ^ ((width + 7) / 8) = ap (λ n. 2 ^ n) (sym count) ∙ shift ((width + 7) / 8) in
    let less : number < 2 ^ width = omega (arith, power, fits) in
    sym (mod-eq_of_lt less)

pub byte_shift : (number place : ℕ) → number / 2 ^ (8 * place) % 256 ≡ byte_at number place
byte_shift number place = ap (λ n. number / n % 256) (shift place)

pub are_pieces-more : (p : Pointer) (k : ℕ) (cs : List Cell) (i : ℕ) (d : Cell) → i < length cs → are_pieces p k (drop i cs) ≡ (is_piece p k (get_or cs i d) && are_pieces p (k + 1) (drop (i + 1) cs))
are_pieces-more p k cs i d h = rw (drop-cons cs i d h) (ap (λ n. is_piece p k (get_or cs i d) && are_pieces p (k + 1) (drop n cs)) (sym (add-one i)))

pub number_of-more : (cs : List Cell) (i : ℕ) (d : Cell) → i < length cs → number_of (drop i cs) ≡ joined (byte_of (get_or cs i d)) (number_of (drop (i + 1) cs))
number_of-more cs i d h = rw (drop-cons cs i d h) (ap (λ n. joined (byte_of (get_or cs i d)) (number_of (drop n cs))) (sym (add-one i)))

-- a poison cell spoils all
pub number_of-none : (cs : List Cell) (i : ℕ) → number_of (drop i cs) ≡ None → number_of cs ≡ None
number_of-none cs zero e = e
number_of-none [] (suc i) e = e
number_of-none (c ∷ cs) (suc i) e = rw (number_of-none cs i e) (none (byte_of c))
  where
    none : (b : Option ℕ) → joined b None ≡ None
    none None = refl
    none (Some b) = refl

pub number_of-step : (cs : List Cell) (left b number : ℕ) (d : Cell) → 1 ≤ left → left ≤ length cs → Some b ≡ byte_of (get_or cs (left - 1) d) → number_of (drop left cs) ≡ Some number → number_of (drop (left - 1) cs) ≡ Some (number * 256 + b)
number_of-step cs left b number d some within e f =
    let more = number_of-more cs (left - 1) d (omega arith) in
    let next : left - 1 + 1 ≡ left = omega arith in
    let order : b + 256 * number ≡ number * 256 + b = omega arith in
    more ∙ ap (λ n. joined (byte_of (get_or cs (left - 1) d)) (number_of (drop n cs))) next ∙ ap (λ r. joined (byte_of (get_or cs (left - 1) d)) r) f ∙ ap (λ r. joined r (Some number)) (sym e) ∙ ap Some order

pub number_of-spoiled : (cs : List Cell) (left : ℕ) (d : Cell) → 1 ≤ left → left ≤ length cs → None ≡ byte_of (get_or cs (left - 1) d) → number_of cs ≡ None
number_of-spoiled cs left d some within e =
    number_of-none cs (left - 1) (number_of-more cs (left - 1) d (omega arith) ∙ ap (λ r. joined r (number_of (drop (left - 1 + 1) cs))) (sym e))
