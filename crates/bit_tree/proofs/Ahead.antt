-- Reading goes forward over records, alignment and blobs too.
use Rattle.std.proofs.Common.{ℕ, zero, suc, ◌+◌, ◌*◌, Bool, List, [], ◌∷◌, drop, Ok, arith, length-drop}
use Rattle.bit_stream.specs.Bits.Cursor.{Cursor, Found}
use Rattle.bit_stream.specs.Bits.Reading.{fixed, vbr, gap, align, bytes, bytes_of, blob}
use Rattle.bit_stream.specs.declared.abbreviation.ValueSpelling.{ValueSpelling}
use Rattle.bit_stream.specs.declared.abbreviation.ValueSpelling.TheVariants.{Known, Field, Chunks, Letter}
use Rattle.bit_stream.specs.declared.abbreviation.Tail.{Tail}
use Rattle.bit_stream.specs.declared.abbreviation.Tail.TheVariants.{NoTail, Elements, Bytes}
use Rattle.bit_stream.specs.Abbreviation.{AdmittedAbbreviation}
use Rattle.bit_stream.specs.Record.{value_by, code_by, operand, elements, each, counted, tail_by, names_block, unabbreviated, abbreviated}
use Rattle.bit_stream.proofs.Forward.{Forward, forward_none, forward_here, forward_if, bind_first, fixed_forward_any, vbr_forward}

value_by_forward : (s : ValueSpelling) (c : Cursor) → Forward 0 c (value_by s c)
unfolding value_by
value_by_forward (Known n) c = forward_here _ c
value_by_forward (Field w) c = fixed_forward_any w c
value_by_forward (Chunks w) c = vbr_forward w c
value_by_forward Letter c = bind_first 0 c (fixed 6 c) _ (fixed_forward_any 6 c) (λ n d. forward_here _ d)

code_by_forward : (s : ValueSpelling) (c : Cursor) → Forward 0 c (code_by s c)
unfolding code_by
code_by_forward s c = bind_first 0 c (value_by s c) _ (value_by_forward s c) (λ n d. forward_if 0 d _ _ _ (forward_none 0 d _) (forward_here _ d))

operand_forward : (b : Bool) (front : List ℕ) (s : ValueSpelling) (c : Cursor) → Forward 0 c (operand b front s c)
unfolding operand
operand_forward b front s c = bind_first 0 c (value_by s c) _ (value_by_forward s c) (λ n d. forward_if 0 d _ _ _ (forward_none 0 d _) (forward_here _ d))

elements_forward : (b : Bool) (s : ValueSpelling) (n : ℕ) (front : List ℕ) (c : Cursor) → Forward 0 c (elements b s n front c)
unfolding elements
elements_forward b s zero front c = forward_here _ c
elements_forward b s (suc n) front c = bind_first 0 c (operand b front s c) _ (operand_forward b front s c) (λ more d. elements_forward b s n more d)

each_forward : (b : Bool) (ss : List ValueSpelling) (front : List ℕ) (c : Cursor) → Forward 0 c (each b ss front c)
unfolding each
each_forward b [] front c = forward_here _ c
each_forward b (s ∷ ss) front c = bind_first 0 c (operand b front s c) _ (operand_forward b front s c) (λ more d. each_forward b ss more d)

counted_forward : (b : Bool) (s : ValueSpelling) (front : List ℕ) (c : Cursor) → Forward 0 c (counted b s front c)
unfolding counted
counted_forward b s front c = bind_first 0 c (vbr 6 c) _ (vbr_forward 6 c) (λ n d. elements_forward b s n front d)

moved_by : {A : Type 0} (n : ℕ) (x : A) (c : Cursor) → let f : Found A = Ok (x, record { at = c.at + n; rest = drop n c.rest }) in Forward 0 c f
moved_by n x c = record { is = omega (arith, length-drop n c.rest) }

pub align_forward : (c : Cursor) → Forward 0 c (align c)
unfolding align
align_forward c = forward_if 0 c _ _ _ (forward_none 0 c _) (moved_by (gap c.at) tt c)

bytes_forward : (n : ℕ) (c : Cursor) → Forward 0 c (bytes n c)
unfolding bytes
bytes_forward n c = forward_if 0 c _ _ _ (forward_none 0 c _) (moved_by (8 * n) (bytes_of n c.rest) c)

blob_forward : (c : Cursor) → Forward 0 c (blob c)
unfolding blob
blob_forward c = bind_first 0 c (vbr 6 c) _ (vbr_forward 6 c) (λ n d. bind_first 0 d (align d) _ (align_forward d) (λ _ e.
    bind_first 0 e (bytes n e) _ (bytes_forward n e) (λ all f. bind_first 0 f (align f) _ (align_forward f) (λ _ g. forward_here _ g))))

tail_by_forward : (b : Bool) (t : Tail) (front : List ℕ) (c : Cursor) → Forward 0 c (tail_by b t front c)
unfolding tail_by
tail_by_forward b NoTail front c = forward_here _ c
tail_by_forward b (Elements s) front c = bind_first 0 c (counted b s front c) _ (counted_forward b s front c) (λ all d. forward_here _ d)
tail_by_forward b Bytes front c = bind_first 0 c (blob c) _ (blob_forward c) (λ all d. forward_here _ d)

pub unabbreviated_forward : (b : Bool) (c : Cursor) → Forward 0 c (unabbreviated b c)
unfolding unabbreviated
unabbreviated_forward b c = bind_first 0 c (code_by (Chunks 6) c) _ (code_by_forward (Chunks 6) c) (λ code d.
    bind_first 0 d (counted (names_block b code) (Chunks 6) [] d) _ (counted_forward (names_block b code) (Chunks 6) [] d) (λ all e. forward_here _ e))

pub abbreviated_forward : (b : Bool) (t : AdmittedAbbreviation) (c : Cursor) → Forward 0 c (abbreviated b t c)
unfolding abbreviated
abbreviated_forward b t c = bind_first 0 c (code_by t.code c) _ (code_by_forward t.code c) (λ code d.
    bind_first 0 d (each (names_block b code) t.operands [] d) _ (each_forward (names_block b code) t.operands [] d) (λ front e.
    bind_first 0 e (tail_by (names_block b code) t.tail front e) _ (tail_by_forward (names_block b code) t.tail front e) (λ all f. forward_here _ f)))
