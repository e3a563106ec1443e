-- The bytes of a spelling are those of the writer that was told to write the module.
use Rattle.std.proofs.Common.{◌≡◌, ℕ, zero, suc, ◌-◌, ◌*◌, ◌/◌, ◌%◌, ◌^◌, ◌<◌, Bool, false, List, [], ◌∷◌, ◌++◌, length, take, drop, replicate, refl, sym, ap, ◌∙◌, arith}
use Rattle.std.proofs.lemmas.List.{length-take, length-drop, append-nil, take-append-drop}
use Rattle.bit_stream.specs.Bits.Bits.{value, bits_of, stream_bits}
use Rattle.bit_stream.specs.Bits.Reading.{bytes_of}
use Rattle.bit_stream.proofs.OnBits.BitsLaws.{bits_of-value}
use Rattle.bit_stream.specs.Writer.{Writer, begun, enter}
use Rattle.bit_tree.specs.Written.{Written, no_more, written, AreBytesOf}
use Rattle.module_arena.specs.Module.{Module}
use Rattle.bit_tree.proofs.Back.{block_whole}
use Rattle.record_table.specs.Records.{producer}
use Rattle.record_table.specs.Spelling.{put_block, put_bytes, put_module, written_module, spelling, string_table, texts_in}
use Rattle.bit_tree.proofs.OnSizes.Grows.{around_kept}

last_whole : (w : Writer) (id : ℕ) (inside : Written) → length (written w (put_block id inside no_more)).bits % 32 ≡ 0
unfolding written
last_whole w id inside = block_whole w id 3 (written (enter w id 3) inside) (around_kept inside (enter w id 3))

module_whole : (m : Module) → length (written begun (written_module m)).bits % 32 ≡ 0
unfolding written
module_whole m = last_whole (written begun (put_bytes 13 producer (put_bytes 23 (string_table m) no_more))) 8 (put_module (texts_in m) m)

count_bytes : (n : ℕ) (bits : List Bool) → length (bytes_of n bits) ≡ n
unfolding bytes_of
count_bytes zero bits = refl
count_bytes (suc n) bits = ap suc (count_bytes n (drop 8 bits))

empty_is : (bits : List Bool) → length bits ≡ 0 → [] ≡ bits
empty_is [] e = refl
empty_is (b ∷ bits) e = absurd (omega (arith, e))

-- bits in whole bytes are the bits of their bytes
bits_again : (n : ℕ) (bits : List Bool) → length bits ≡ 8 * n → stream_bits (bytes_of n bits) ≡ bits
unfolding bytes_of stream_bits
bits_again zero bits e = empty_is bits (omega (arith, e))
bits_again (suc n) bits e =
    let eight : length (take 8 bits) ≡ 8 = length-take 8 bits ∙ omega (arith, e) in
    let rest : length (drop 8 bits) ≡ 8 * n = length-drop 8 bits ∙ omega (arith, e) in
    ap (λ (x : List Bool). x ++ stream_bits (bytes_of n (drop 8 bits))) (ap (λ (w : ℕ). bits_of w (value (take 8 bits))) (sym eight) ∙ bits_of-value (take 8 bits))
    ∙ ap (λ (x : List Bool). take 8 bits ++ x) (bits_again n (drop 8 bits) rest)
    ∙ take-append-drop 8 bits

pub bytes_are : (m : Module) → AreBytesOf (written begun (written_module m)) (spelling m)
bytes_are m =
    let bits = (written begun (written_module m)).bits in
    let whole = module_whole m in
    let nothing : (8 - length bits % 8) % 8 ≡ 0 = omega (arith, whole) in
    bits_again (length bits / 8) bits (omega (arith, whole)) ∙ sym (ap (λ (n : ℕ). bits ++ replicate n false) nothing ∙ append-nil bits)

-- fewer than 2 ^ 32 words are fewer than 2 ^ 37 bits
pub few_bits : (m : Module) → length (spelling m) / 4 < 2 ^ 32 → length (written begun (written_module m)).bits < 2 ^ 37
few_bits m few =
    let bits = (written begun (written_module m)).bits in
    let count = count_bytes (length bits / 8) bits in
    let less : length bits / 8 / 4 < 2 ^ 32 = omega (arith, few, count) in
    omega (arith, less)
