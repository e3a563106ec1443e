-- The bytes of a stream of whole words.
use Rattle.std.proofs.Common.{◌≡◌, ℕ, ◌-◌, ◌/◌, ◌%◌, ◌<◌, Bool, false, List, ◌++◌, length, get_or, replicate, sym, ap, ◌∙◌, arith}
use Rattle.std.proofs.lemmas.List.{append-nil, take_all}
use Rattle.bit_stream.specs.Bits.Bits.{stream_bits}
use Rattle.bit_stream.specs.Bits.Reading.{bytes_of}
use Rattle.bit_stream.specs.Bits.Writing.{byte_pad}
use Rattle.bit_stream.proofs.OnBits.BitsLaws.{length-stream_bits}
use Rattle.bit_stream.proofs.OnBits.Places.{bytes_are}

-- the bytes that give these bits
pub bytes_back : (bits : List Bool) (text : List ℕ) → length bits % 32 ≡ 0 → ((i : ℕ) → get_or text i 0 < 256) → stream_bits text ≡ bits ++ byte_pad (length bits) → text ≡ bytes_of (length bits / 8) bits
bytes_back bits text whole small is =
    let none : (8 - length bits % 8) % 8 ≡ 0 = omega (arith, whole) in
    let same : stream_bits text ≡ bits = is ∙ ap (λ (n : ℕ). bits ++ replicate n false) none ∙ append-nil bits in
    let count : length bits / 8 ≡ length text = omega (arith, length-stream_bits text, ap length same) in
    sym (ap (bytes_of (length bits / 8)) (sym same) ∙ ap (λ (n : ℕ). bytes_of n (stream_bits text)) count ∙ bytes_are (length text) text (omega arith) small ∙ take_all (length text) text (omega arith))
