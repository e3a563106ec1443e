-- What a writer's bytes and pending bits are after a field.
use Rattle.std.proofs.Common.{◌≡◌, ℕ, zero, suc, ◌+◌, ◌-◌, ◌*◌, ◌/◌, ◌%◌, ◌^◌, ◌<◌, ◌≤◌, Bool, true, false, List, [], ◌∷◌, ◌++◌, length, take, replicate, refl, sym, ap, ◌∙◌, arith, append_assoc, add_comm, length-append, inl, inr, bit_and, bit_or}
use Rattle.std.specs.Int.{w64, w128, to_le_bytes, bytes_low_first, byte_at}
use Rattle.std.proofs.lemmas.List.{append-nil, take_at, length-take-le}
use Rattle.std.proofs.Math.Nat.{mod-eq_of_lt, pow-suc, div-div-eq-div-mul}
use Rattle.std.proofs.Math.Pow.{pow_mono, pow-lt}
use Rattle.std.proofs.Math.Arith.{digits_lt}
use Rattle.std.proofs.lemmas.Nat.{pow_pos, pow-add, or_shifted, shl_whole, shr_below, div_below, mul-le, or_lt, and_mask, one_shl}
use Rattle.std.specs.Int.Bits.{or_shifted_r}
use Rattle.std.proofs.lemmas.Bool.{lt-ltb, le-ltb, cases_lt}
use Rattle.bit_stream.specs.Bits.Bits.{bits_of, stream_bits}
use Rattle.bit_stream.specs.Bits.Writing.{vbr_bits, pad_bits, byte_pad}
use Rattle.bit_stream.proofs.OnBits.BitsLaws.{same_bits, length-bits_of, length-stream_bits, value-bits_of, bits_of-add, bits_of-cat, stream_bits-append, stream_bits-take}

-- a number in a type of enough bits is itself
pub bits_of-mod : (w n : ℕ) → bits_of w (n % 2 ^ w) ≡ bits_of w n
bits_of-mod w n = same_bits _ _ (rw (length-bits_of, length-bits_of) refl) (rw (value-bits_of, value-bits_of) (mod-eq_of_lt (omega (arith, pow_pos w))))

bits_of_byte : (i n : ℕ) → bits_of 8 (byte_at i n) ≡ bits_of 8 (n / 256 ^ i)
bits_of_byte zero n = bits_of-mod 8 n ∙ ap (bits_of 8) (omega arith)
bits_of_byte (suc i) n = bits_of-mod 8 (n / 256 ^ suc i)

next_byte : (i n : ℕ) → n / 256 ^ i / 2 ^ 8 ≡ n / 256 ^ suc i
next_byte i n = div-div-eq-div-mul n (256 ^ i) 256 ∙ ap (λ (m : ℕ). n / m) (sym (pow-suc 256 i))

pub bits_none : (n : ℕ) → bits_of 0 n ≡ []
unfolding bits_of
bits_none n = refl

pub le_bits : (i k n : ℕ) → stream_bits (bytes_low_first i k n) ≡ bits_of (8 * k) (n / 256 ^ i)
unfolding stream_bits
le_bits i zero n = sym (bits_none (n / 256 ^ i))
le_bits i (suc k) n =
    let size : 8 * suc k ≡ 8 + 8 * k = omega arith in
    rw (size, bits_of-add 8 (8 * k) (n / 256 ^ i), bits_of_byte, le_bits (suc i) k n, next_byte) refl

pub le_bits_16 : (n : ℕ) → stream_bits (to_le_bytes w128 n) ≡ bits_of 128 n
le_bits_16 n = le_bits 0 16 n ∙ ap (bits_of 128) (omega arith)

pub take_bits : (k j n : ℕ) → take k (bits_of (k + j) n) ≡ bits_of k n
take_bits k j n = rw (bits_of-add k j n, take_at (bits_of k n) (bits_of j (n / 2 ^ k)) k (length-bits_of k n)) refl

pub joined : (v c p : ℕ) → c < 32 → v < 2 ^ 64 → p < 2 ^ c → bit_or (v * 2 ^ c % 2 ^ 128) p ≡ v * 2 ^ c + p
joined v c p h small low = rw (shl_whole v 64 c 128 small (omega arith), or_shifted v c p low) refl

pub joined-lt : (v w c p : ℕ) → v < 2 ^ w → p < 2 ^ c → v * 2 ^ c + p < 2 ^ (c + w)
joined-lt v w c p small low = omega (arith, pow-add 2 w c, ap (λ (k : ℕ). 2 ^ k) (add_comm w c), digits_lt small low)

pub joined_in_word : (v c p : ℕ) → c < 32 → v < 2 ^ 32 → p < 2 ^ c → bit_or (v * 2 ^ c % 2 ^ 64) p ≡ v * 2 ^ c + p
joined_in_word v c p h small low = rw (shl_whole v 32 c 64 small (omega arith), or_shifted v c p low) refl

pub append_field : (out : List ℕ) (c p w v : ℕ) → p < 2 ^ c → c < 32 → w ≤ 64
    → stream_bits (out ++ take (4 * ((c + w) / 32)) (to_le_bytes w128 (v * 2 ^ c + p))) ++ bits_of ((c + w) % 32) ((v * 2 ^ c + p) / 2 ^ (32 * ((c + w) / 32)))
    ≡ (stream_bits out ++ bits_of c p) ++ bits_of w v
append_field out c p w v low short wide =
    let words = (c + w) / 32 in
    let n = v * 2 ^ c + p in
    let bits : 8 * (4 * words) ≡ 32 * words = omega arith in
    let whole : 32 * words + (128 - 32 * words) ≡ 128 = omega arith in
    let front : take (32 * words) (bits_of 128 n) ≡ bits_of (32 * words) n =
    ap (λ (k : ℕ). take (32 * words) (bits_of k n)) (sym whole) ∙ take_bits (32 * words) (128 - 32 * words) n in
    let size : 32 * words + (c + w) % 32 ≡ c + w = omega arith in
    rw (stream_bits-append, stream_bits-take, le_bits_16, bits, front, append_assoc, ← bits_of-add (32 * words) ((c + w) % 32) n, size, bits_of-cat c w p v low) (sym (append_assoc (stream_bits out) (bits_of c p) (bits_of w v)))

pub zeros : (k : ℕ) → bits_of k 0 ≡ replicate k false
unfolding bits_of
zeros zero = refl
zeros (suc k) = ap (λ (l : List Bool). false ∷ l) (zeros k)

-- one chunk
pub chunk_bits : (j n t : ℕ) → t < 2 → bits_of (j + 1) (t * 2 ^ j + n % 2 ^ j) ≡ bits_of j n ++ bits_of 1 t
chunk_bits j n t h = rw (bits_of-cat j 1 (n % 2 ^ j) t (omega (arith, pow_pos j)), bits_of-mod j n) refl

pub words_length : (out : List ℕ) (k n : ℕ) → length out % 4 ≡ 0 → k ≤ 4 → length (out ++ take (4 * k) (to_le_bytes w128 n)) % 4 ≡ 0
words_length out k n h small =
    let size : length (take (4 * k) (to_le_bytes w128 n)) ≡ 4 * k = length-take-le (4 * k) (to_le_bytes w128 n) (omega arith) in
    omega (arith, length-append out (take (4 * k) (to_le_bytes w128 n)))

pub word_length : (out : List ℕ) (n : ℕ) → length out % 4 ≡ 0 → length (out ++ take 4 (to_le_bytes w64 n)) % 4 ≡ 0
word_length out n h =
    let size : length (take 4 (to_le_bytes w64 n)) ≡ 4 = length-take-le 4 (to_le_bytes w64 n) (omega arith) in
    omega (arith, length-append out (take 4 (to_le_bytes w64 n)))

-- a chunk that another one follows
pub chunk_more : (j n : ℕ) → j < 64 → n < 2 ^ 64 → 2 ^ j ≤ n → bits_of (j + 1) (bit_or (bit_and n (1 * 2 ^ j % 2 ^ 64 - 1)) (1 * 2 ^ j % 2 ^ 64)) ≡ bits_of j n ++ true ∷ []
unfolding bits_of
chunk_more j n h fits more =
    let one : 1 * 2 ^ j ≡ 2 ^ j = omega arith in
    let together = rw one at (or_shifted_r 1 j (n % 2 ^ j) (omega (arith, pow_pos j))) in
    rw (one_shl j 64 h, and_mask, together) (rw one at (chunk_bits j n 1 (omega arith)))

pub chunk_last : (j n : ℕ) → n < 2 ^ j → bits_of (j + 1) n ≡ bits_of j n ++ false ∷ []
unfolding bits_of
chunk_last j n h =
    let whole : 0 * 2 ^ j + n % 2 ^ j ≡ n = omega (arith, mod-eq_of_lt h) in
    rw whole at (chunk_bits j n 0 (omega arith))

pub vbr_end : (more w n : ℕ) → n < 2 ^ (w - 1) → vbr_bits more w n ≡ bits_of (w - 1) n ++ false ∷ []
unfolding vbr_bits
vbr_end zero w n h = refl
vbr_end (suc more) w n h = rw (lt-ltb n _ h) refl

pub vbr_again : (more w n : ℕ) → 2 ^ (w - 1) ≤ n → vbr_bits (suc more) w n ≡ bits_of (w - 1) n ++ true ∷ vbr_bits more w (n / 2 ^ (w - 1))
unfolding vbr_bits
vbr_again more w n h = rw (le-ltb n _ h) refl

pub rest-lt : (more w n : ℕ) → 2 ≤ w → n < 2 ^ suc more → n / 2 ^ (w - 1) < 2 ^ more
rest-lt more w n h fits =
    let size : suc more ≤ more + (w - 1) = omega arith in
    let bound : 2 ^ suc more ≤ 2 ^ (more + (w - 1)) = pow_mono size in
    shr_below n more (w - 1) (omega arith)

-- more chunks than a number has change nothing
pub vbr_enough : (more w n : ℕ) → 2 ≤ w → n < 2 ^ suc more → vbr_bits more w n ≡ vbr_bits (suc more) w n
vbr_enough zero w n h fits =
    let size : 1 ≤ w - 1 = omega arith in
    let bound : 2 ^ 1 ≤ 2 ^ (w - 1) = pow_mono size in
    let small : n < 2 ^ (w - 1) = omega arith in
    rw (vbr_end 0 w n small, vbr_end 1 w n small) refl
vbr_enough (suc more) w n h fits = elim (cases_lt n (2 ^ (w - 1))) [
  | inl small ↦ rw (vbr_end (suc more) w n small, vbr_end (suc (suc more)) w n small) refl
  | inr big ↦ rw (vbr_again more w n big, vbr_again (suc more) w n big, vbr_enough more w (n / 2 ^ (w - 1)) h (rest-lt (suc more) w n h fits)) refl
]

-- one more chunk written
pub vbr_step : (old new all : List Bool) (w n : ℕ) → 2 ≤ w → w ≤ 32 → n < 2 ^ 64 → 2 ^ (w - 1) ≤ n
    → new ≡ old ++ bits_of w (bit_or (bit_and n (1 * 2 ^ (w - 1) % 2 ^ 64 - 1)) (1 * 2 ^ (w - 1) % 2 ^ 64))
    → old ++ vbr_bits 64 w n ≡ all → new ++ vbr_bits 64 w (n / 2 ^ (w - 1)) ≡ all
vbr_step old new all w n low high fits more is so_far =
    let size : w - 1 + 1 ≡ w = omega arith in
    let chunk = rw size at (chunk_more (w - 1) n (omega arith) fits more) in
    let rest = n / 2 ^ (w - 1) in
    let again : vbr_bits 64 w n ≡ bits_of (w - 1) n ++ true ∷ vbr_bits 63 w rest = vbr_again 63 w n more in
    let enough : vbr_bits 63 w rest ≡ vbr_bits 64 w rest = vbr_enough 63 w rest low (rest-lt 64 w n low (omega arith)) in
    rw (is, chunk, ← enough, append_assoc, append_assoc, ← again) so_far

pub chunk-lt : (w n : ℕ) → 2 ≤ w → w ≤ 32 → bit_or (bit_and n (1 * 2 ^ (w - 1) % 2 ^ 64 - 1)) (1 * 2 ^ (w - 1) % 2 ^ 64) < 2 ^ w
chunk-lt w n low high =
    let less : w - 1 < w = omega arith in
    let bound : 2 ^ (w - 1) < 2 ^ w = pow-lt less in
    let low_part : n % 2 ^ (w - 1) < 2 ^ w = omega (arith, pow_pos (w - 1)) in
    rw (one_shl (w - 1) 64 (omega arith), and_mask) (or_lt w (n % 2 ^ (w - 1)) (2 ^ (w - 1)) low_part bound)

pub rest-smaller : (w n : ℕ) → 2 ≤ w → 2 ^ (w - 1) ≤ n → n / 2 ^ (w - 1) < n
rest-smaller w n low more =
    let size : 1 ≤ w - 1 = omega arith in
    let bound : 2 ^ 1 ≤ 2 ^ (w - 1) = pow_mono size in
    div_below n (2 ^ (w - 1)) n (pow_pos (w - 1)) (omega (arith, mul-le n 2 n (2 ^ (w - 1)) (omega arith) bound))

pub vbr_done : (old all : List Bool) (w n : ℕ) → 2 ≤ w → n < 2 ^ (w - 1) → old ++ vbr_bits 64 w n ≡ all → old ++ bits_of w n ≡ all
vbr_done old all w n low small so_far =
    let size : w - 1 + 1 ≡ w = omega arith in
    let chunk = rw size at (chunk_last (w - 1) n small) in
    rw (chunk, ← vbr_end 64 w n small) so_far

-- a writer's bits at a word's end are its bytes
pub padded : (out : List ℕ) (c p k : ℕ) (old : List Bool) → c < 32 → length out % 4 ≡ 0 → k ≡ (32 - length old % 32) % 32
    → stream_bits out ++ bits_of c p ≡ old ++ bits_of k 0 → stream_bits out ≡ old ++ pad_bits (length old)
padded out c p k old short words pad is =
    let sizes : 8 * length out + c ≡ length old + k =
    omega (arith, ap length is, length-append (stream_bits out) (bits_of c p), length-append old (bits_of k 0), length-stream_bits out, length-bits_of c p, length-bits_of k 0) in
    let none : c ≡ 0 = omega arith in
    let left : bits_of c p ≡ [] = ap (λ (j : ℕ). bits_of j p) none ∙ bits_none p in
    sym (append-nil (stream_bits out)) ∙ rw left at is ∙ rw (zeros k, pad) refl

le_bits_8 : (n : ℕ) → stream_bits (to_le_bytes w64 n) ≡ bits_of 64 n
le_bits_8 n = le_bits 0 8 n ∙ ap (bits_of 64) (omega arith)

-- a field that ends the word which waits
pub append_narrow : (out : List ℕ) (c p w v : ℕ) → p < 2 ^ c → c < 32 → w ≤ 32 → 32 ≤ c + w
    → stream_bits (out ++ take 4 (to_le_bytes w64 (v * 2 ^ c + p))) ++ bits_of (c + w - 32) ((v * 2 ^ c + p) / 2 ^ 32)
    ≡ (stream_bits out ++ bits_of c p) ++ bits_of w v
append_narrow out c p w v low short narrow full =
    let n = v * 2 ^ c + p in
    let front : take (8 * 4) (bits_of 64 n) ≡ bits_of 32 n = take_bits 32 32 n in
    let size : 32 + (c + w - 32) ≡ c + w = omega arith in
    rw (stream_bits-append, stream_bits-take, le_bits_8, front, append_assoc, ← bits_of-add 32 (c + w - 32) n, size, bits_of-cat c w p v low) (sym (append_assoc (stream_bits out) (bits_of c p) (bits_of w v)))

-- pending bits as whole bytes, with zeros at the end
pub byte_ended : (out : List ℕ) (c p k : ℕ) → c < 32 → p < 2 ^ c → k ≡ (c + 7) / 8
    → stream_bits (out ++ take k (to_le_bytes w64 p)) ≡ (stream_bits out ++ bits_of c p) ++ byte_pad (length (stream_bits out ++ bits_of c p))
byte_ended out c p k few small is =
    let pad = (8 - length (stream_bits out ++ bits_of c p) % 8) % 8 in
    let size : 8 * k ≡ c + pad = omega (arith, length-append (stream_bits out) (bits_of c p), length-stream_bits out, length-bits_of c p) in
    let whole : 8 * k + (64 - 8 * k) ≡ 64 = omega arith in
    let front : take (8 * k) (bits_of 64 p) ≡ bits_of (8 * k) p = ap (λ (j : ℕ). take (8 * k) (bits_of j p)) (sym whole) ∙ take_bits (8 * k) (64 - 8 * k) p in
    let low : 0 + c ≡ c = omega arith in
    let below : p / 2 ^ c < 2 ^ 0 = shr_below p 0 c (rw low small) in
    let none : p / 2 ^ c ≡ 0 = omega arith in
    let cut : bits_of (8 * k) p ≡ bits_of c p ++ byte_pad (length (stream_bits out ++ bits_of c p)) =
    ap (λ (j : ℕ). bits_of j p) size ∙ bits_of-add c pad p ∙ ap (λ (j : ℕ). bits_of c p ++ bits_of pad j) none ∙ ap (λ (l : List Bool). bits_of c p ++ l) (zeros pad) in
    rw (stream_bits-append, stream_bits-take, le_bits_8, front, cut) (sym (append_assoc (stream_bits out) (bits_of c p) (byte_pad (length (stream_bits out ++ bits_of c p)))))

-- the pending bits of a sink whose bits are whole words are none
pub whole_words : (out : List ℕ) (c p : ℕ) → length out % 4 ≡ 0 → c < 32 → length (stream_bits out ++ bits_of c p) % 32 ≡ 0 → c ≡ 0
whole_words out c p words few whole = omega (arith, length-append (stream_bits out) (bits_of c p), length-stream_bits out, length-bits_of c p)

-- whole words behind whole words
pub append_words : (out more : List ℕ) (c p d q : ℕ) → c ≡ 0 → d ≡ 0 → stream_bits (out ++ more) ++ bits_of c p ≡ (stream_bits out ++ bits_of c p) ++ (stream_bits more ++ bits_of d q)
append_words out more c p d q e f = rw (stream_bits-append, e, f, bits_none, bits_none, append-nil, append-nil, append-nil) refl
