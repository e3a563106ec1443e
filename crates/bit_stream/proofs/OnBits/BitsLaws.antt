-- Laws that tie lists of bits to numbers.
use Rattle.std.proofs.Common.{◌≡◌, ℕ, zero, suc, ◌+◌, ◌-◌, ◌*◌, ◌/◌, ◌%◌, ◌^◌, ◌<◌, ◌≤◌, Bool, true, false, List, [], ◌∷◌, ◌++◌, length, take, drop, refl, sym, ap, ◌∙◌, subst, append_assoc, add_comm, add-one, arith, length-append, length-drop, min}
use Rattle.std.specs.Prelude.{◌==◌}
use Rattle.std.proofs.lemmas.List.{drop-drop, drop_at, take_at, take_min}
use Rattle.std.proofs.Math.Pow.{mod-mod-pow}
use Rattle.std.proofs.Math.Seq.{take-nil, drop-nil, take-add}
use Rattle.std.proofs.Math.Nat.{mod-eq_of_lt, pow-suc, mul_comm, mul_assoc}
use Rattle.std.proofs.lemmas.Nat.{pow_pos, shr-shr, shr_high, mod_low, mod-pow-add, field_of}
use Rattle.bit_stream.specs.Bits.Bits.{bit, value, bits_of, stream_bits}

pub pow_step : (k : ℕ) → 2 ^ suc k ≡ 2 * 2 ^ k
pow_step k = rw (pow-suc 2 k, mul_comm (2 ^ k) 2) refl

pub length-bits_of : (w n : ℕ) → length (bits_of w n) ≡ w
unfolding bits_of
length-bits_of zero n = refl
length-bits_of (suc w) n = ap suc (length-bits_of w (n / 2))

pub length-stream_bits : (bs : List ℕ) → length (stream_bits bs) ≡ 8 * length bs
unfolding stream_bits
length-stream_bits [] = refl
length-stream_bits (b ∷ bs) = omega (arith, length-append (bits_of 8 b) (stream_bits bs), length-bits_of 8 b, length-stream_bits bs)

-- a run of bits is below the power of its length
pub value-lt : (l : List Bool) → value l < 2 ^ length l
unfolding value
value-lt [] = omega arith
value-lt (true ∷ l) = omega (arith, pow_step (length l), value-lt l)
value-lt (false ∷ l) = omega (arith, pow_step (length l), value-lt l)

-- a test of a parity, as a number
bit_eq : (n : ℕ) → n < 2 → bit (n == 1) ≡ n
bit_eq zero h = refl
bit_eq (suc zero) h = refl
bit_eq (suc (suc n)) h = absurd (omega arith)

half : (b : Bool) (v : ℕ) → (bit b + 2 * v) / 2 ≡ v
half true v = omega arith
half false v = omega arith

odd : (b : Bool) (v : ℕ) → (bit b + 2 * v) % 2 ≡ bit b
odd true v = omega arith
odd false v = omega arith

-- one bit, and the bits above it
mod_step : (n k : ℕ) → n % 2 ^ suc k ≡ n % 2 + 2 * (n / 2 % 2 ^ k)
mod_step n k = rw (← add-one k) (omega (arith, mod-pow-add n k 1))

div_step : (n k : ℕ) → n / 2 ^ suc k ≡ n / 2 / 2 ^ k
div_step n k = sym (shr-shr n 1 k ∙ ap (λ (j : ℕ). n / 2 ^ j) (omega arith))

pub value-bits_of : (w n : ℕ) → value (bits_of w n) ≡ n % 2 ^ w
unfolding value bits_of
value-bits_of zero n = omega arith
value-bits_of (suc w) n = rw (value-bits_of w (n / 2), bit_eq (n % 2) (omega arith), mod_step) refl

pub value-append : (x y : List Bool) → value (x ++ y) ≡ value x + 2 ^ length x * value y
unfolding value
value-append [] y = omega arith
value-append (b ∷ x) y = rw (value-append x y, pow_step, mul_assoc) (omega arith)

pub value-drop : (k : ℕ) (l : List Bool) → value (drop k l) ≡ value l / 2 ^ k
unfolding value
value-drop zero l = omega arith
value-drop (suc k) [] = omega (arith, pow_pos (suc k))
value-drop (suc k) (b ∷ l) = rw (div_step, half, value-drop k l) refl

pub value-take : (k : ℕ) (l : List Bool) → value (take k l) ≡ value l % 2 ^ k
unfolding value
value-take zero l = omega arith
value-take (suc k) [] = omega (arith, pow_pos (suc k))
value-take (suc k) (b ∷ l) = rw (mod_step, half, odd, value-take k l) refl

-- two runs of one length that stand for one number are one run
pub same_bits : (x y : List Bool) → length x ≡ length y → value x ≡ value y → x ≡ y
unfolding value
same_bits [] [] l v = refl
same_bits [] (b ∷ y) l v = absurd (omega arith)
same_bits (b ∷ x) [] l v = absurd (omega arith)
same_bits (true ∷ x) (true ∷ y) l v = ap (λ (z : List Bool). true ∷ z) (same_bits x y (omega arith) (omega arith))
same_bits (true ∷ x) (false ∷ y) l v = absurd (omega arith)
same_bits (false ∷ x) (true ∷ y) l v = absurd (omega arith)
same_bits (false ∷ x) (false ∷ y) l v = ap (λ (z : List Bool). false ∷ z) (same_bits x y (omega arith) (omega arith))

-- bits of a number, cut in two
pub bits_of-add : (a b n : ℕ) → bits_of (a + b) n ≡ bits_of a n ++ bits_of b (n / 2 ^ a)
bits_of-add a b n =
    let lengths : length (bits_of (a + b) n) ≡ length (bits_of a n ++ bits_of b (n / 2 ^ a)) =
    rw (length-append, length-bits_of, length-bits_of, length-bits_of) refl in
    same_bits _ _ lengths (rw (value-append, value-bits_of, value-bits_of, value-bits_of, length-bits_of) (omega (arith, ap (λ (j : ℕ). n % 2 ^ j) (add_comm a b), mod-pow-add n b a, mul_comm (2 ^ a) (n / 2 ^ a % 2 ^ b))))

-- the low bits of v * 2 ^ c + p are those of p
bits_of-low : (c p v : ℕ) → p < 2 ^ c → bits_of c (v * 2 ^ c + p) ≡ bits_of c p
bits_of-low c p v h =
    same_bits _ _ (rw (length-bits_of, length-bits_of) refl) (rw (value-bits_of, value-bits_of) (rw (mod_low v c p h, mod-eq_of_lt h) refl))

-- the bits of p with those of v above them
pub bits_of-cat : (c w p v : ℕ) → p < 2 ^ c → bits_of (c + w) (v * 2 ^ c + p) ≡ bits_of c p ++ bits_of w v
bits_of-cat c w p v h = bits_of-add c w (v * 2 ^ c + p) ∙ rw (bits_of-low c p v h, shr_high v c p h) refl

-- each run of bits is the bits of its number
pub bits_of-value : (l : List Bool) → bits_of (length l) (value l) ≡ l
bits_of-value l = same_bits _ _ (length-bits_of _ _) (value-bits_of _ _ ∙ mod-eq_of_lt (value-lt l))

pub stream_bits-append : (x y : List ℕ) → stream_bits (x ++ y) ≡ stream_bits x ++ stream_bits y
unfolding stream_bits
stream_bits-append [] y = refl
stream_bits-append (b ∷ x) y = rw (stream_bits-append x y, append_assoc) refl

pub stream_bits-drop : (k : ℕ) (bs : List ℕ) → stream_bits (drop k bs) ≡ drop (8 * k) (stream_bits bs)
unfolding stream_bits
stream_bits-drop zero bs = refl
stream_bits-drop (suc k) [] = sym (drop-nil (8 * suc k))
stream_bits-drop (suc k) (b ∷ bs) =
    let e : 8 * suc k ≡ 8 + 8 * k = omega arith in
    rw (e, ← drop-drop (8 * k) 8 (bits_of 8 b ++ stream_bits bs), drop_at (bits_of 8 b) (stream_bits bs) 8 (length-bits_of 8 b)) (stream_bits-drop k bs)

-- one byte, and the bytes after it
pub value-byte : (b : ℕ) (bs : List ℕ) → b < 256 → value (stream_bits (b ∷ bs)) ≡ b + 256 * value (stream_bits bs)
unfolding stream_bits
value-byte b bs h = rw (value-append, value-bits_of, length-bits_of) (omega arith)

pub stream_bits-take : (k : ℕ) (bs : List ℕ) → stream_bits (take k bs) ≡ take (8 * k) (stream_bits bs)
unfolding stream_bits
stream_bits-take zero bs = refl
stream_bits-take (suc k) [] = sym (take-nil (8 * suc k))
stream_bits-take (suc k) (b ∷ bs) =
    let e : 8 * suc k ≡ 8 + 8 * k = omega arith in
    rw (e, take-add 8 (8 * k) (bits_of 8 b ++ stream_bits bs), take_at (bits_of 8 b) (stream_bits bs) 8 (length-bits_of 8 b), drop_at (bits_of 8 b) (stream_bits bs) 8 (length-bits_of 8 b), stream_bits-take k bs) refl

-- the first 64 bits from byte k on
pub first_word : (k : ℕ) (bs : List ℕ) → k ≤ length bs → stream_bits (take (min (length bs - k) 8) (drop k bs)) ≡ take 64 (drop (8 * k) (stream_bits bs))
first_word k bs h =
    let count : min (length bs - k) 8 ≡ min 8 (length (drop k bs)) = omega (arith, length-drop k bs) in
    rw (count, take_min 8 (drop k bs), stream_bits-take, stream_bits-drop) refl

-- A field of off + w bits lies in the 64 bits that begin with it.
pub field_in_word : (n off w : ℕ) → off + w ≤ 64 → n % 2 ^ 64 / 2 ^ off % 2 ^ w ≡ n / 2 ^ off % 2 ^ w
field_in_word n off w h =
    let j = 64 - off - w in
    let whole : j + w + off ≡ 64 = omega arith in
    let P : ℕ → Type 0 = λ t. n % 2 ^ t / 2 ^ off % 2 ^ w ≡ n / 2 ^ off % 2 ^ w in
    subst P whole (rw (field_of n (j + w) off) (mod-mod-pow (n / 2 ^ off) j w))
