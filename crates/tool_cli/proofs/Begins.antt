-- How what is written begins: bitcode as bitcode does, and canonical text not: it is empty, or begins with a word or a name.
use Rattle.std.proofs.Common.{◌≡◌, ℕ, zero, suc, ◌+◌, ◌*◌, ◌/◌, ◌<◌, ◌==◌, nat_lt, Bool, true, false, not, ◌&&◌, List, [], ◌∷◌, ◌++◌, length, take, drop, map, codes, Option, Some, None, refl, sym, ap, ◌∙◌, arith, true≢false}
use Rattle.std.proofs.lemmas.Bool.{eqb-true}
use Rattle.bit_stream.specs.Bits.Bits.{value, stream_bits}
use Rattle.bit_stream.specs.Bits.Reading.{bytes_of}
use Rattle.bit_stream.proofs.OnBits.BitsLaws.{stream_bits-take, value-byte, value-take}
use Rattle.bit_stream.proofs.OnBits.Words.{value-nil}
use Rattle.bit_stream.specs.Reader.{begins}
use Rattle.bit_stream.specs.Writer.{begun}
use Rattle.bit_tree.specs.Written.{written}
use Rattle.canonical.specs.Canonical.{alias_phrase, canon, function_phrase, function_phrase_by, struct_phrase, text_phrases, variable_phrase}
use Rattle.canonical.specs.Phrase.{Phrase, each, word, ◌␣◌}
use Rattle.ir_lexer.specs.Pieces.{Line, pieces_text}
use Rattle.module_arena.specs.Module.{Alias, Block, Bytes, Function, Module, Variable}
use Rattle.record_table.specs.Records.{Spells}
use Rattle.record_table.specs.Spelling.{spelling, written_module}
use Rattle.type_table.specs.Tree.{Structs}
use Rattle.tool_cli.specs.Judged.{is_bitcode}

-- ---- canonical text

-- the text of these phrases, each on a line
abbrev lines : List Phrase → Bytes
lines phrases = pieces_text (each Line phrases Line)

-- a function begins with `declare` or `define`
with_function : (f : Function) (body : Option (List Block)) (rest : List Phrase) → is_bitcode (lines (function_phrase_by f body ∷ rest)) ≡ false
with_function f None rest = refl
with_function f (Some blocks) rest = refl

with_entries : (structs : Structs) (variables : List Variable) (aliases : List Alias) (functions : List Function) → is_bitcode (lines (map struct_phrase structs ++ (map variable_phrase variables ++ (map alias_phrase aliases ++ map function_phrase functions)))) ≡ false
with_entries (s ∷ structs) variables aliases functions = refl
with_entries [] (v ∷ variables) aliases functions = refl
with_entries [] [] (a ∷ aliases) functions = refl
with_entries [] [] [] (f ∷ functions) = with_function f f.body (map function_phrase functions)
with_entries [] [] [] [] = refl

with_texts : (source layout triple : Option Bytes) (others : List Phrase) → is_bitcode (lines others) ≡ false → is_bitcode (lines (text_phrases (word (codes "source_filename")) source ++ (text_phrases (word (codes "target") ␣ word (codes "datalayout")) layout ++ (text_phrases (word (codes "target") ␣ word (codes "triple")) triple ++ others)))) ≡ false
with_texts (Some source) layout triple others e = refl
with_texts None (Some layout) triple others e = refl
with_texts None None (Some triple) others e = refl
with_texts None None None others e = e

pub canon_begins : (m : Module) → is_bitcode (canon m) ≡ false
canon_begins m =
    with_texts m.source m.layout m.triple (map struct_phrase m.structs ++ (map variable_phrase m.variables ++ (map alias_phrase m.aliases ++ map function_phrase m.functions)))
    (with_entries m.structs m.variables m.aliases m.functions)

-- ---- bitcode

second_holds : (a b : Bool) → a && b ≡ true → b ≡ true
second_holds true b e = e
second_holds false b e = absurd (true≢false (sym e))

-- four bytes as a number
four_bytes : (a b c d : ℕ) → a < 256 → b < 256 → c < 256 → d < 256 → value (stream_bits (a ∷ b ∷ c ∷ d ∷ [])) ≡ a + 256 * (b + 256 * (c + 256 * (d + 256 * 0)))
four_bytes a b c d h i j k =
    value-byte a (b ∷ c ∷ d ∷ []) h
    ∙ ap (λ (n : ℕ). a + 256 * n)
    (value-byte b (c ∷ d ∷ []) i ∙ ap (λ (n : ℕ). b + 256 * n) (value-byte c (d ∷ []) j ∙ ap (λ (n : ℕ). c + 256 * n) (value-byte d [] k ∙ ap (λ (n : ℕ). d + 256 * n) value-nil)))

-- its low byte, and what is above
record Split (a n q r : ℕ) : Type 0 where
  low : a ≡ r
  high : n ≡ q

split : (a n q r : ℕ) → a < 256 → r < 256 → a + 256 * n ≡ r + 256 * q → Split a n q r
split a n q r small few e = record { low = omega (arith, small, few, e); high = omega (arith, small, few, e) }

-- where that is the magic number the bytes are those of bitcode
same_bytes : (a b c d : ℕ) (rest : List ℕ) → a ≡ 0x42 → b ≡ 0x43 → c ≡ 0xC0 → d ≡ 0xDE → is_bitcode (a ∷ b ∷ c ∷ d ∷ rest) ≡ true
same_bytes a b c d rest e f g h =
    ap (λ (x : ℕ). is_bitcode (x ∷ b ∷ c ∷ d ∷ rest)) e ∙ ap (λ (x : ℕ). is_bitcode (0x42 ∷ x ∷ c ∷ d ∷ rest)) f
    ∙ ap (λ (x : ℕ). is_bitcode (0x42 ∷ 0x43 ∷ x ∷ d ∷ rest)) g ∙ ap (λ (x : ℕ). is_bitcode (0x42 ∷ 0x43 ∷ 0xC0 ∷ x ∷ rest)) h

by_magic : (a b c d : ℕ) (rest : List ℕ) → a < 256 → b < 256 → c < 256 → d < 256 → a + 256 * (b + 256 * (c + 256 * (d + 256 * 0))) ≡ 0xdec0_4342 → is_bitcode (a ∷ b ∷ c ∷ d ∷ rest) ≡ true
by_magic a b c d rest h i j k e =
    let one = split a (b + 256 * (c + 256 * (d + 256 * 0))) 0xdec043 0x42 h (omega arith) e in
    let two = split b (c + 256 * (d + 256 * 0)) 0xdec0 0x43 i (omega arith) one.high in
    let three = split c (d + 256 * 0) 0xde 0xC0 j (omega arith) two.high in
    let last : d ≡ 0xDE = omega (arith, three.high) in
    same_bytes a b c d rest one.low two.low three.low last

-- bytes that a stream begins with begin as bitcode does
four_begin : (a b c d : ℕ) (rest : List ℕ) → a < 256 → b < 256 → c < 256 → d < 256 → begins (a ∷ b ∷ c ∷ d ∷ rest) ≡ true → is_bitcode (a ∷ b ∷ c ∷ d ∷ rest) ≡ true
four_begin a b c d rest h i j k e =
    let bytes = a ∷ b ∷ c ∷ d ∷ rest in
    let magic = eqb-true (value (take 32 (stream_bits bytes))) 0xdec0_4342 (second_holds (not (nat_lt (length bytes) 4)) (value (take 32 (stream_bits bytes)) == 0xdec0_4342) e) in
    let four : value (stream_bits (a ∷ b ∷ c ∷ d ∷ [])) ≡ 0xdec0_4342 = ap value (stream_bits-take 4 bytes) ∙ magic in
    by_magic a b c d rest h i j k (sym (four_bytes a b c d h i j k) ∙ four)

byte_small : (bits : List Bool) → value (take 8 bits) < 256
byte_small bits = omega (arith, value-take 8 bits)

bytes_begin : (n : ℕ) (bits : List Bool) → begins (bytes_of n bits) ≡ true → is_bitcode (bytes_of n bits) ≡ true
unfolding bytes_of
bytes_begin zero bits e = absurd (true≢false (sym e))
bytes_begin (suc zero) bits e = absurd (true≢false (sym e))
bytes_begin (suc (suc zero)) bits e = absurd (true≢false (sym e))
bytes_begin (suc (suc (suc zero))) bits e = absurd (true≢false (sym e))
bytes_begin (suc (suc (suc (suc n)))) bits e =
    let two = drop 8 bits in
    let three = drop 8 two in
    let last = drop 8 three in
    four_begin (value (take 8 bits)) (value (take 8 two)) (value (take 8 three)) (value (take 8 last)) (bytes_of n (drop 8 last)) (byte_small bits) (byte_small two) (byte_small three) (byte_small last) e

-- what is written of a module, where it is bitcode of it, begins as bitcode does
pub spelling_begins : (m : Module) → Spells (spelling m) m → is_bitcode (spelling m) ≡ true
spelling_begins m spells = let bits = (written begun (written_module m)).bits in bytes_begin (length bits / 8) bits spells.is_tree.opens
