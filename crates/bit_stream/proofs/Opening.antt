-- The bytes that a stream begins with.
use Rattle.std.proofs.Common.{◌≡◌, ℕ, ◌≤◌, false, List, length, take, drop, Result, Ok, Err, refl, sym, ap, ◌∙◌, arith, inl, inr}
use Rattle.std.proofs.lemmas.Bool.{cases_lt, lt-ltb, le-ltb}
use Rattle.std.specs.Prelude.{◌==◌}
use Rattle.bit_stream.specs.Bits.Bits.{value, stream_bits}
use Rattle.bit_stream.specs.Bits.Cursor.{Cursor}
use Rattle.bit_stream.specs.Bits.Reading.{fixed}
use Rattle.bit_stream.specs.declared.bits.fault.BitFault.{BitFault}
use Rattle.bit_stream.proofs.OnBits.BitsLaws.{length-stream_bits}
use Rattle.bit_stream.proofs.OnBits.ReaderSteps.{field_short, field_whole}
use Rattle.bit_stream.specs.Reader.{begins}

abbrev start : List ℕ → Cursor
start bytes = record { at = 0; rest = stream_bits bytes }

pub no_word : (bytes : List ℕ) (e : BitFault) → fixed 32 (start bytes) ≡ Err e → begins bytes ≡ false
no_word bytes e h = elim (cases_lt (length bytes) 4) [
  | inl short ↦ rw (lt-ltb (length bytes) 4 short) refl
  | inr long ↦ let read = field_whole 32 (start bytes) (omega (arith, length-stream_bits bytes)) in absurd (cc)
]

pub word_long : (bytes : List ℕ) (n : ℕ) (d : Cursor) → fixed 32 (start bytes) ≡ Ok (n, d) → 4 ≤ length bytes
word_long bytes n d h = elim (cases_lt (length bytes) 4) [
  | inl short ↦ let read = field_short 32 (start bytes) (omega (arith, length-stream_bits bytes)) in absurd (cc)
  | inr long ↦ long
]

second : {A B : Type 0} (a c : A) (b d : B) → let x : Result (A × B) BitFault = Ok (a, b) in x ≡ Ok (c, d) → (a ≡ c) × (b ≡ d)
second {A} {B} a c b d h = let one : A × B = (a, b) in let two : A × B = (c, d) in let pair : one ≡ two = cc in (ap (λ (p : A × B). p.0) pair, ap (λ (p : A × B). p.1) pair)

pub word_there : (bytes : List ℕ) (n : ℕ) (d : Cursor) → fixed 32 (start bytes) ≡ Ok (n, d) → (value (take 32 (stream_bits bytes)) ≡ n) × (record { at = 32; rest = drop 32 (stream_bits bytes) } ≡ d)
word_there bytes n d h =
    let long = word_long bytes n d h in
    let read = field_whole 32 (start bytes) (omega (arith, length-stream_bits bytes)) in
    second _ n _ d (sym read ∙ h)

pub begins_is : (bytes : List ℕ) (n : ℕ) (d : Cursor) → fixed 32 (start bytes) ≡ Ok (n, d) → begins bytes ≡ (n == 0xdec0_4342)
begins_is bytes n d h = rw (le-ltb (length bytes) 4 (word_long bytes n d h), (word_there bytes n d h).0) refl
