-- Operands that have one chunk each, passed together.
use Rattle.std.proofs.Common.{◌≡◌, ℕ, zero, suc, ◌+◌, ◌-◌, ◌*◌, ◌/◌, ◌%◌, ◌^◌, ◌<◌, ◌≤◌, false, ◌++◌, length, take, drop, Option, None, Ok, refl, sym, ap, ◌∙◌, arith, inl, inr, length-drop, bit_and}
use Rattle.std.proofs.lemmas.Bool.{cases_lt}
use Rattle.std.proofs.lemmas.List.{drop-drop, length-take-le}
use Rattle.std.proofs.lemmas.Nat.{and_mod, and_shr}
use Rattle.std.proofs.lemmas.Nat.Bits.{and_pow}
use Rattle.std.proofs.Math.Seq.{take-add}
use Rattle.bit_stream.specs.Bits.Bits.{value}
use Rattle.bit_stream.specs.Bits.Cursor.{Cursor}
use Rattle.bit_stream.specs.Bits.Reading.{fixed, vbr, vbr_at}
use Rattle.bit_stream.proofs.OnBits.BitsLaws.{value-append, value-lt}
use Rattle.bit_stream.proofs.OnBits.Chunks.{one_chunk}
use Rattle.bit_stream.proofs.OnBits.ReaderSteps.{field_short, field_whole}
use Rattle.bit_stream.specs.declared.abbreviation.ValueSpelling.TheVariants.{Chunks}
use Rattle.bit_stream.specs.Record.{value_by}
use Rattle.bit_dump.specs.Walk.Passing.{with_first, pass_operand, pass_elements}
use Rattle.bit_dump.proofs.OnWalk.Operands.{found_parts}

-- the top bit of each of so many chunks of 6 bits
unfoldable pub tops : ℕ → ℕ
tops zero = 0
tops (suc n) = 32 + 64 * tops n

-- where none is set, the first chunk has one alone
first_clear : (v m : ℕ) → bit_and v (32 + 64 * m) ≡ 0 → v % 64 < 32
first_clear v m h =
    let low : (32 + 64 * m) % 2 ^ 6 ≡ 32 = omega arith in
    let none : bit_and v (32 + 64 * m) % 2 ^ 6 ≡ 0 = rw h refl in
    let all : bit_and (v % 2 ^ 6) ((32 + 64 * m) % 2 ^ 6) ≡ 0 = sym (and_mod v (32 + 64 * m) 6) ∙ none in
    let top : bit_and (v % 2 ^ 6) (2 ^ 5) ≡ 0 = rw low at all in
    let bit : v % 2 ^ 6 / 2 ^ 5 % 2 * 2 ^ 5 ≡ 0 = sym (and_pow (v % 2 ^ 6) 5) ∙ top in
    omega (arith, bit)

-- and none is set in the others
others_clear : (v m : ℕ) → bit_and v (32 + 64 * m) ≡ 0 → bit_and (v / 64) m ≡ 0
others_clear v m h =
    let high : (32 + 64 * m) / 2 ^ 6 ≡ m = omega arith in
    let none : bit_and v (32 + 64 * m) / 2 ^ 6 ≡ 0 = rw h refl in
    let all : bit_and (v / 2 ^ 6) ((32 + 64 * m) / 2 ^ 6) ≡ 0 = sym (and_shr v (32 + 64 * m) 6) ∙ none in
    rw high at all

-- a field that was read lies in the stream
field_fits : (w v : ℕ) (c d : Cursor) → fixed w c ≡ Ok (v, d) → w ≤ length c.rest
field_fits w v c d h = elim (cases_lt (length c.rest) w) [
  | inl short ↦ let refused = field_short w c short in absurd (cc)
  | inr whole ↦ whole
]

vbr_one : (c : Cursor) (v : ℕ) → Ok (v, 6) ≡ vbr_at 6 c.rest → vbr 6 c ≡ Ok (v, record { at = c.at + 6; rest = drop 6 c.rest })
unfolding vbr
vbr_one c v h = rw (← h) refl

-- the first chunk of a field is a number, and the others are a field behind it
record FirstChunk (n v : ℕ) (c d : Cursor) : Type 0 where
  number : ℕ
  place : Cursor
  reads : vbr 6 c ≡ Ok (number, place)
  rest : fixed (6 * n) place ≡ Ok (v / 64, d)

first_chunk : (n v : ℕ) (c d : Cursor) → fixed (6 * suc n) c ≡ Ok (v, d) → v % 64 < 32 → FirstChunk n v c d
first_chunk n v c d h clear =
    let bits = c.rest in
    let fits = field_fits (6 * suc n) v c d h in
    let last : Cursor = record { at = c.at + 6 * suc n; rest = drop (6 * suc n) bits } in
    let same = found_parts (value (take (6 * suc n) bits)) v last d (sym (field_whole (6 * suc n) c fits) ∙ h) in
    let size : 6 * suc n ≡ 6 + 6 * n = omega arith in
    let front = take 6 bits in
    let back = take (6 * n) (drop 6 bits) in
    let some : 6 ≤ length bits = omega (arith, fits) in
    let long : length front ≡ 6 = length-take-le 6 bits some in
    let cut : take (6 * suc n) bits ≡ front ++ back = ap (λ (k : ℕ). take k bits) size ∙ take-add 6 (6 * n) bits in
    let weight : 2 ^ length front ≡ 64 = ap (λ (k : ℕ). 2 ^ k) long in
    let parts : value (front ++ back) ≡ value front + 64 * value back = value-append front back ∙ ap (λ (k : ℕ). value front + k * value back) weight in
    let number : v ≡ value front + 64 * value back = sym same.0 ∙ ap value cut ∙ parts in
    let low : value front < 64 = rw weight at (value-lt front) in
    let chunk : value front / 2 ^ (6 - 1) ≡ 0 = omega (arith, number, low, clear) in
    let high : v / 64 ≡ value back = omega (arith, number, low) in
    let place : Cursor = record { at = c.at + 6; rest = drop 6 bits } in
    let left : 6 * n ≤ length (drop 6 bits) = omega (arith, fits, length-drop 6 bits) in
    let at : c.at + 6 + 6 * n ≡ c.at + 6 * suc n = omega arith in
    let tail : drop (6 * n) (drop 6 bits) ≡ drop (6 * suc n) bits = drop-drop (6 * n) 6 bits ∙ ap (λ (k : ℕ). drop k bits) (sym size) in
    let behind : Cursor = record { at = c.at + 6 + 6 * n; rest = drop (6 * n) (drop 6 bits) } in
    let end : behind ≡ last = λ i. record { at = at i; rest = tail i } in
    let ends : behind ≡ d = end ∙ same.1 in
    record {
      number = value front;
      place = place;
      reads = vbr_one c (value front) (one_chunk 6 (value front) bits (omega arith) (omega arith) some refl chunk);
      rest = field_whole (6 * n) place left ∙ (λ i. Ok (sym high i, ends i));
    }

no_chunk : (v : ℕ) (c d : Cursor) → fixed 0 c ≡ Ok (v, d) → c ≡ d
no_chunk v c d h =
    let last : Cursor = record { at = c.at + 0; rest = drop 0 c.rest } in
    let same = found_parts (value (take 0 c.rest)) v last d (sym (field_whole 0 c (omega arith)) ∙ h) in
    let at : c.at ≡ c.at + 0 = omega arith in
    let here : c ≡ last = λ i. record { at = at i; rest = c.rest } in
    here ∙ same.1

passed_short : (n k v : ℕ) (c d : Cursor) (first : Option ℕ) → n ≤ k → bit_and v (tops k) ≡ 0 → fixed (6 * n) c ≡ Ok (v, d) → (more : Option ℕ) × (pass_elements false (Chunks 6) n first c ≡ Ok (more, d))
unfolding tops pass_elements pass_operand value_by
passed_short zero k v c d first few clear h = let same = no_chunk v c d h in (first, rw same refl)
passed_short (suc n) zero v c d first few clear h = absurd (omega arith)
passed_short (suc n) (suc k) v c d first few clear h =
    let one = first_chunk n v c d h (first_clear v (tops k) clear) in
    let more = passed_short n k (v / 64) one.place d (with_first first one.number) (omega arith) (others_clear v (tops k) clear) one.rest in
    (more.0, rw one.reads more.1)

-- at most nine of them: the number is what `tops 9` comes to
pub passed_together : (n v : ℕ) (c d : Cursor) → n ≤ 9 → bit_and v 9150170671482912 ≡ 0 → fixed (6 * n) c ≡ Ok (v, d) → (first : Option ℕ) × (pass_elements false (Chunks 6) n None c ≡ Ok (first, d))
unfolding tops
passed_together n v c d few clear h = passed_short n 9 v c d None few clear h
