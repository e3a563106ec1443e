-- What is read at a place where a word is so far gone.
use Rattle.std.proofs.Common.{◌≡◌, ℕ, ◌+◌, ◌-◌, ◌*◌, ◌%◌, ◌^◌, ◌<◌, Bool, true, false, List, [], ◌∷◌, ◌++◌, length, Ok, refl, sym, ◌∙◌, arith, append_assoc, length-append}
use Rattle.std.proofs.lemmas.List.{take_at, drop_at, length-replicate}
use Rattle.std.proofs.Math.Nat.{mod-eq_of_lt}
use Rattle.std.proofs.lemmas.Bool.{ltb-true, and_parts}
use Rattle.bit_stream.specs.Bits.Bits.{bits_of}
use Rattle.bit_stream.specs.Bits.Writing.{pad_bits}
use Rattle.bit_stream.specs.Bits.Cursor.{Cursor, Found, ◌>>=◌}
use Rattle.bit_stream.specs.Bits.Reading.{vbr, gap, align, bytes, bytes_of, blob}
use Rattle.bit_stream.proofs.OnBits.BitsLaws.{length-bits_of, value-bits_of}
use Rattle.bit_stream.proofs.OnBits.ReaderSteps.{align_whole, bytes_whole}
use Rattle.bit_stream.specs.declared.abbreviation.ValueSpelling.TheVariants.{Field}
use Rattle.bit_stream.specs.Spelling.{chunks, value_bits, all_fit, all_bits}
use Rattle.bit_stream.specs.Law.{ReadsAs}
use Rattle.bit_stream.proofs.ReadBack.{vbr_reads}

-- at each place that is as far in its word as bit n, these bits are read so, whatever follows them
abbrev pub ReadsFrom : {A : Type 0} → ℕ → (Cursor → Found A) → List Bool → A → Type 0
ReadsFrom n read bits x = (at : ℕ) (rest : List Bool) → at % 32 ≡ n % 32 → read (record { at = at; rest = bits ++ rest }) ≡ Ok (x, record { at = at + length bits; rest = rest })

pub anywhere : {A : Type 0} (n : ℕ) (read : Cursor → Found A) (bits : List Bool) (x : A) → ReadsAs read bits x → ReadsFrom n read bits x
anywhere n read bits x h at rest same = h at rest

pub then_from : {A B : Type 0} (n : ℕ) (f : Cursor → Found A) (g : A → Cursor → Found B) (xs ys : List Bool) (a : A) (b : B) → ReadsFrom n f xs a → ReadsFrom (n + length xs) (g a) ys b → ReadsFrom n (λ c. f c >>= g) (xs ++ ys) b
then_from n f g xs ys a b p q at rest same =
    let place : at + length xs + length ys ≡ at + length (xs ++ ys) = omega (arith, length-append xs ys) in
    let word : (at + length xs) % 32 ≡ (n + length xs) % 32 = omega arith in
    rw (append_assoc, p at (ys ++ rest) same, q (at + length xs) rest word, place) refl

-- a value made of what was read
pub done_from : {A B : Type 0} (n : ℕ) (f : Cursor → Found A) (h : A → B) (xs : List Bool) (a : A) → ReadsFrom n f xs a → ReadsFrom n (λ c. f c >>= λ x d. Ok (h x, d)) xs (h a)
done_from n f h xs a p at rest same = rw (p at rest same) refl

pub pad_size : (n : ℕ) → length (pad_bits n) ≡ (32 - n % 32) % 32
pad_size n = length-replicate ((32 - n % 32) % 32) false

pub align_from : (n : ℕ) → ReadsFrom n align (pad_bits n) tt
align_from n at rest same =
    let size : gap at ≡ length (pad_bits n) = rw same (sym (pad_size n)) in
    let whole = align_whole (record { at = at; rest = pad_bits n ++ rest }) (omega (arith, size, length-append (pad_bits n) rest)) in
    whole ∙ rw (size, drop_at (pad_bits n) rest (length (pad_bits n)) refl) refl

pub byte_size : (ns : List ℕ) → length (all_bits (Field 8) ns) ≡ 8 * length ns
unfolding value_bits
byte_size [] = refl
byte_size (n ∷ ns) = omega (arith, length-append (bits_of 8 n) (all_bits (Field 8) ns), length-bits_of 8 n, byte_size ns)

bytes_are : (ns : List ℕ) (rest : List Bool) → all_fit (Field 8) ns ≡ true → bytes_of (length ns) (all_bits (Field 8) ns ++ rest) ≡ ns
unfolding bytes_of value_bits
bytes_are [] rest fit = refl
bytes_are (n ∷ ns) rest fit =
    let parts = and_parts _ _ fit in
    let small : n < 256 = ltb-true n (2 ^ 8) parts.0 in
    rw (append_assoc, take_at (bits_of 8 n) (all_bits (Field 8) ns ++ rest) 8 (length-bits_of 8 n), drop_at (bits_of 8 n) (all_bits (Field 8) ns ++ rest) 8 (length-bits_of 8 n), value-bits_of, mod-eq_of_lt small, bytes_are ns rest parts.1) refl

pub bytes_reads : (ns : List ℕ) → all_fit (Field 8) ns ≡ true → ReadsAs (bytes (length ns)) (all_bits (Field 8) ns) ns
bytes_reads ns fit at rest =
    let size = byte_size ns in
    let whole = bytes_whole (length ns) (record { at = at; rest = all_bits (Field 8) ns ++ rest }) (omega (arith, size, length-append (all_bits (Field 8) ns) rest)) in
    whole ∙ rw (bytes_are ns rest fit, ← size, drop_at (all_bits (Field 8) ns) rest (length (all_bits (Field 8) ns)) refl) refl

-- a blob that begins at bit n
abbrev pub blob_bits : ℕ → List ℕ → List Bool
blob_bits n ns =
    let count = chunks 6 (length ns) in
    let before = pad_bits (n + length count) in
    let inside = all_bits (Field 8) ns in
    count ++ (before ++ (inside ++ pad_bits (n + length count + length before + length inside)))

pub blob_reads : (n : ℕ) (ns : List ℕ) → all_fit (Field 8) ns ≡ true → length ns < 2 ^ 64 → ReadsFrom n blob (blob_bits n ns) ns
unfolding blob
blob_reads n ns fit few =
    let count = chunks 6 (length ns) in
    let before = pad_bits (n + length count) in
    let inside = all_bits (Field 8) ns in
    let behind = pad_bits (n + length count + length before + length inside) in
    then_from n (vbr 6) (λ k d. align d >>= λ _ e. bytes k e >>= λ all f. align f >>= λ _ g. Ok (all, g)) count (before ++ (inside ++ behind)) (length ns) ns
    (anywhere n (vbr 6) count (length ns) (vbr_reads 6 (length ns) (omega arith) few))
    (then_from (n + length count) align (λ _ e. bytes (length ns) e >>= λ all f. align f >>= λ _ g. Ok (all, g)) before (inside ++ behind) tt ns
    (align_from (n + length count))
    (then_from (n + length count + length before) (bytes (length ns)) (λ all f. align f >>= λ _ g. Ok (all, g)) inside behind ns ns
    (anywhere (n + length count + length before) (bytes (length ns)) inside ns (bytes_reads ns fit))
    (done_from (n + length count + length before + length inside) align (λ _. ns) behind tt (align_from (n + length count + length before + length inside)))))
