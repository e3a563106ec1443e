-- What a writer wrote is the stream of its tree.
use Rattle.std.proofs.Common.{◌≡◌, ℕ, ◌+◌, ◌-◌, ◌≤◌, ◌^◌, ◌%◌, ◌/◌, Bool, true, false, List, [], ◌∷◌, ◌++◌, length, take, refl, ap, ◌∙◌, arith, append_assoc, length-append}
use Rattle.std.specs.Prelude.{slice_index_or}
use Rattle.std.proofs.lemmas.Bool.{le-ltb, eq-eqb}
use Rattle.std.proofs.lemmas.List.{take_at, drop_at, get_or_at}
use Rattle.bit_stream.specs.Bits.Bits.{value, bits_of, stream_bits}
use Rattle.bit_stream.specs.Bits.Writing.{pad_bits, byte_pad}
use Rattle.bit_stream.proofs.OnBits.BitsLaws.{length-bits_of, value-bits_of, length-stream_bits}
use Rattle.bit_stream.specs.Scope.{Scope, top_level}
use Rattle.bit_stream.specs.Entry.{is_top, block_left}
use Rattle.bit_stream.specs.Reader.{begins}
use Rattle.bit_stream.specs.Spelling.{chunks, aligned}
use Rattle.bit_stream.specs.Writer.{Writer, begun, id_bits, enter, ended, end_block}
use Rattle.bit_tree.specs.Stream.{opening}
use Rattle.bit_tree.specs.Written.{Written, no_more, a_block, a_definition, a_record, a_short_record, written, Allowed, WrittenIsRead}
use Rattle.bit_tree.proofs.Places.{pad_size}
use Rattle.bit_tree.proofs.Sound.{top_sound}
use Rattle.bit_tree.proofs.Alike.{alike_self, left_is}
use Rattle.bit_tree.proofs.Step.{Ready}
use Rattle.bit_tree.proofs.Blocks.{comes, ready_entered, block_step}

begun_ready : Ready begun.scope
begun_ready = record { sound = top_sound; wide = omega arith }

aligned_whole : (bits : List Bool) → length (aligned bits) % 32 ≡ 0
aligned_whole bits = omega (arith, length-append bits (pad_bits (length bits)), pad_size (length bits))

-- behind a block whole words were written
pub block_whole : (w : Writer) (id width : ℕ) (x : Writer) → x.around ≡ (enter w id width).around → length (end_block x).bits % 32 ≡ 0
block_whole w id width x stack =
    let outer = aligned (w.bits ++ id_bits w 1 ++ chunks 8 id ++ chunks 4 width) in
    let less : length x.around - 1 ≡ length w.around = omega (arith, ap length stack, length-append w.around (outer ∷ [])) in
    let first : slice_index_or x.around (length x.around - 1) [] ≡ outer = rw (less, stack) (get_or_at w.around outer [] [] (length w.around) refl) in
    let count = bits_of 32 (length (ended x) / 32 % 2 ^ 32) in
    let size : length (outer ++ count ++ ended x) ≡ length outer + 32 + length (ended x) = omega (arith, length-append (outer ++ count) (ended x), length-append outer count, length-bits_of 32 (length (ended x) / 32 % 2 ^ 32)) in
    let whole : length (outer ++ count ++ ended x) % 32 ≡ 0 = omega (arith, size, aligned_whole (w.bits ++ id_bits w 1 ++ chunks 8 id ++ chunks 4 width), aligned_whole (x.bits ++ id_bits x 0)) in
    ap (λ (l : List Bool). length (l ++ count ++ ended x) % 32) first ∙ whole

never : {A : Type 0} (b : Bool) → b ≡ true → b ≡ false → A
never b h k = absurd (cc)

-- where no block is open only blocks are written
top_whole : (x : Written) (w : Writer) → Ready w.scope → is_top w.scope ≡ true → length w.bits % 32 ≡ 0 → Allowed w x → length (written w x).bits % 32 ≡ 0
unfolding written Allowed
top_whole no_more w ready top whole all = whole
top_whole (a_block id width inside behind) w ready top whole all =
    let inner = comes inside (enter w id width) (ready_entered w id width ready all.0.low) all.1 in
    let step = block_step w id width inside ready all.0 inner all.2 in
    let still : is_top (block_left (written (enter w id width) inside).scope) ≡ true = ap (λ (s : Scope). is_top s) (left_is w.scope (written (enter w id width) inside).scope inner.scopes) ∙ top in
    top_whole behind (end_block (written (enter w id width) inside)) step.ready still (block_whole w id width (written (enter w id width) inside) inner.around) all.3
top_whole (a_definition ops behind) w ready top whole all = never (is_top w.scope) top all.0.inside
top_whole (a_record code ns behind) w ready top whole all = never (is_top w.scope) top all.0.inside
top_whole (a_short_record id code ns behind) w ready top whole all = never (is_top w.scope) top all.0.put.inside

begins_with : (bytes : List ℕ) (rest : List Bool) → stream_bits bytes ≡ bits_of 32 0xdec0_4342 ++ rest → begins bytes ≡ true
begins_with bytes rest h =
    let size = length-bits_of 32 0xdec0_4342 in
    let long : 4 ≤ length bytes = omega (arith, length-stream_bits bytes, ap length h, length-append (bits_of 32 0xdec0_4342) rest, size) in
    let number : value (take 32 (stream_bits bytes)) ≡ 0xdec0_4342 = rw (h, take_at (bits_of 32 0xdec0_4342) rest 32 size) (value-bits_of 32 0xdec0_4342) in
    rw (le-ltb (length bytes) 4 long, eq-eqb _ _ number) refl

opening_is : (bytes : List ℕ) (rest : List Bool) → stream_bits bytes ≡ bits_of 32 0xdec0_4342 ++ rest → opening bytes ≡ record { at = 32; rest = rest }
opening_is bytes rest h = rw (h, drop_at (bits_of 32 0xdec0_4342) rest 32 (length-bits_of 32 0xdec0_4342)) refl

pub written_is_read : WrittenIsRead
written_is_read all bytes allowed is =
    let x = written begun all in
    let back = comes all begun begun_ready allowed in
    let magic = bits_of 32 0xdec0_4342 in
    let size : length begun.bits ≡ 32 = length-bits_of 32 0xdec0_4342 in
    let pad = byte_pad (length x.bits) in
    let whole = top_whole all begun begun_ready refl (omega arith) allowed in
    let gap : (8 - length x.bits % 8) % 8 ≡ 0 = omega arith in
    let none : pad ≡ [] = rw gap refl in
    let rest = back.more ++ pad in
    let bits : stream_bits bytes ≡ magic ++ rest = is ∙ (ap (λ (l : List Bool). l ++ pad) back.bits ∙ append_assoc magic back.more pad) in
    let read = back.reads top_level (alike_self top_level) 32 pad (omega arith) in
    let depth : length read.scope.around ≡ 0 = read.alike.depth ∙ ap length back.scopes in
    record {
      opens = begins_with bytes rest bits;
      scope = read.scope;
      cursor = record { at = 32 + length back.more; rest = pad };
      all = rw (opening_is bytes rest bits) read.way;
      closed = rw depth refl;
      whole = none;
    }
