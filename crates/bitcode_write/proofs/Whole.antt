-- A whole stream: its three blocks, and its bytes.
use Rattle.std.proofs.Common.{◌≡◌, ℕ, ◌/◌, ◌%◌, ◌<◌, List, length, get_or, refl, sym, ap, ◌∙◌}
use Rattle.std.proofs.Common.{Result, Ok, Err, OnOk}
use Rattle.module_arena.specs.Module.{Module}
use Rattle.bit_stream.specs.Bits.Reading.{bytes_of}
use Rattle.bit_stream.specs.Writer.{Writer, begun, enter}
use Rattle.bit_tree.specs.Written.{Written, no_more, written, AreBytesOf}
use Rattle.bit_tree.proofs.Back.{block_whole}
use Rattle.record_table.specs.Records.{producer}
use Rattle.record_table.specs.Spelling.{put_block, put_bytes, put_module, texts_in, string_table, written_module, spelling}
use Rattle.bitcode_write.proofs.Finished.{bytes_back}
use Rattle.bitcode_write.proofs.Lined.{around_kept}

-- three blocks are written one behind the other
three_blocks : (w : Writer) (i j k : ℕ) (x y z : Written) → written (written (written w (put_block i x no_more)) (put_block j y no_more)) (put_block k z no_more) ≡ written w (put_block i x (put_block j y (put_block k z no_more)))
unfolding written
three_blocks w i j k x y z = refl

last_whole : (w : Writer) (id : ℕ) (inside : Written) → length (written w (put_block id inside no_more)).bits % 32 ≡ 0
unfolding written
last_whole w id inside = block_whole w id 3 (written (enter w id 3) inside) (around_kept inside (enter w id 3))

-- a call that wrote the last of the three blocks of a module wrote all of it
pub blocks_put : {E : Type 0} (r : Result (Unit {0}) E) (m : Module) (table : List ℕ)
    (first second third last : Writer)
    → second ≡ written first (put_bytes 13 producer no_more)
    → third ≡ written second (put_bytes 23 table no_more) → table ≡ string_table m
    → OnOk r (last ≡ written third (put_block 8 (put_module (texts_in m) m) no_more))
    → OnOk r (last ≡ written first (written_module m))
blocks_put (Ok u) m table first second third last f g t h =
    let inside = put_module (texts_in m) m in
    let bytes = λ (ns : List ℕ). put_bytes 23 ns no_more in
    let two = g ∙ ap (λ (ns : List ℕ). written second (bytes ns)) t
    ∙ ap (λ (w : Writer). written w (bytes (string_table m))) f in
    h ∙ ap (λ (w : Writer). written w (put_block 8 inside no_more)) two
    ∙ three_blocks first 13 23 8 _ _ inside
blocks_put (Err x) m table first second third last f g t h = tt

-- the bytes of the three blocks of a module
pub spelled : (m : Module) (first last : Writer) (text : List ℕ) → first ≡ begun
    → last ≡ written first (written_module m) → AreBytesOf last text
    → ((i : ℕ) → get_or text i 0 < 256) → text ≡ spelling m
spelled m first last text e h are small =
    let inside = put_module (texts_in m) m in
    let all : last ≡ written begun (written_module m) =
    h ∙ ap (λ (w : Writer). written w (written_module m)) e in
    let third = written (written begun (put_bytes 13 producer no_more))
    (put_bytes 23 (string_table m) no_more) in
    let whole : length last.bits % 32 ≡ 0 =
    ap (λ (w : Writer). length w.bits % 32) (all ∙ sym (three_blocks begun 13 23 8 _ _ inside))
    ∙ last_whole third 8 inside in
    bytes_back last.bits text whole small are
    ∙ ap (λ (w : Writer). bytes_of (length w.bits / 8) w.bits) all
