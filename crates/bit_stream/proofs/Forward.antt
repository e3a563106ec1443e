-- Reading goes forward: how many bits are left behind what was read.
use Rattle.std.proofs.Common.{◌≡◌, ℕ, zero, suc, ◌+◌, ◌-◌, ◌≤◌, Bool, true, false, List, [], ◌∷◌, ◌++◌, length, Ok, Err, IfOk, if◌then◌else◌, refl, arith, inl, inr, length-drop}
use Rattle.bit_stream.specs.Bits.Cursor.{Cursor, Found, ◌>>=◌}
use Rattle.bit_stream.specs.Bits.Reading.{Read, read_at, fixed_at, vbr_at, fixed, vbr}
use Rattle.bit_stream.specs.declared.bits.fault.BitFault.{BitFault}
use Rattle.std.proofs.lemmas.Bool.{cases_lt}
use Rattle.bit_stream.proofs.OnBits.Chunks.{vbr_takes}
use Rattle.bit_stream.proofs.OnBits.ReaderSteps.{fixed_short, fixed_whole}
use Rattle.std.specs.Prelude.{◌==◌}
use Rattle.bit_stream.specs.declared.abbreviation.ValueSpelling.{ValueSpelling}
use Rattle.bit_stream.specs.declared.abbreviation.ValueSpelling.TheVariants.{Known, Field, Chunks, Letter}
use Rattle.bit_stream.specs.declared.abbreviation.Tail.{Tail}
use Rattle.bit_stream.specs.declared.definition.Encoding.{Encoding}
use Rattle.bit_stream.specs.declared.definition.Encoding.TheVariants.{AsField, AsChunks, AsArray, AsLetter, AsBlob}
use Rattle.bit_stream.specs.declared.definition.DefinitionPart.{DefinitionPart}
use Rattle.bit_stream.specs.declared.definition.DefinitionPart.TheVariants.{Value, End}
use Rattle.bit_stream.specs.Definition.{field_width, chunk_width, encoding_of, encoding, scalar_by, literal, first_operand, element, element_of, part_by, part, parts, by_part, defined_abbreviation}

-- where something was read, at least n bits fewer are left
pub record Forward {A : Type 0} (n : ℕ) (c : Cursor) (f : Found A) : Type 0 where
  pub is : IfOk f (λ x. length x.1.rest + n ≤ length c.rest)

pub forward_none : {A : Type 0} (n : ℕ) (c : Cursor) (e : BitFault) → let f : Found A = Err e in Forward n c f
forward_none n c e = record { is = tt }

pub forward_here : {A : Type 0} (x : A) (c : Cursor) → let f : Found A = Ok (x, c) in Forward 0 c f
forward_here x c = record { is = omega arith }

pub forward_if : {A : Type 0} (n : ℕ) (c : Cursor) (b : Bool) (x y : Found A) → Forward n c x → Forward n c y → Forward n c (if b then x else y)
forward_if n c true x y h k = h
forward_if n c false x y h k = k

-- read behind what was read
forward_on : {A : Type 0} (m n : ℕ) (c d : Cursor) (f : Found A) → length d.rest + m ≤ length c.rest → Forward n d f → Forward (m + n) c f
forward_on m n c d (Ok x) h k = let inner : length x.1.rest + n ≤ length d.rest = k.is in record { is = omega arith }
forward_on m n c d (Err e) h k = record { is = tt }

bind : {A B : Type 0} (m n : ℕ) (c : Cursor) (f : Found A) (g : A → Cursor → Found B) → Forward m c f → ((x : A) (d : Cursor) → Forward n d (g x d)) → Forward (m + n) c (f >>= g)
bind m n c (Ok x) g h k = forward_on m n c x.1 (g x.0 x.1) h.is (k x.0 x.1)
bind m n c (Err e) g h k = record { is = tt }

pub bind_first : {A B : Type 0} (m : ℕ) (c : Cursor) (f : Found A) (g : A → Cursor → Found B) → Forward m c f → ((x : A) (d : Cursor) → Forward 0 d (g x d)) → Forward m c (f >>= g)
bind_first m c f g h k = let size : m + 0 ≡ m = omega arith in rw size at (bind m 0 c f g h k)

pub bind_then : {A B : Type 0} (n : ℕ) (c : Cursor) (f : Found A) (g : A → Cursor → Found B) → Forward 0 c f → ((x : A) (d : Cursor) → Forward n d (g x d)) → Forward n c (f >>= g)
bind_then n c f g h k = let size : 0 + n ≡ n = omega arith in rw size at (bind 0 n c f g h k)

-- a field, a number in chunks
read_forward : (n : ℕ) (c : Cursor) (r : Read) → IfOk r (λ x. n ≤ x.1) → IfOk r (λ x. x.1 ≤ length c.rest) → Forward n c (read_at c r)
read_forward n c (Ok x) least most = let low : n ≤ x.1 = least in let high : x.1 ≤ length c.rest = most in record { is = omega (arith, length-drop x.1 c.rest) }
read_forward n c (Err e) least most = record { is = tt }

vbr_most : (w : ℕ) (bits : List Bool) (r : Read) → r ≡ vbr_at w bits → IfOk r (λ x. x.1 ≤ length bits)
vbr_most w bits (Ok x) h = vbr_takes w x.0 x.1 bits h
vbr_most w bits (Err e) h = tt

any : (r : Read) → IfOk r (λ x. 0 ≤ x.1)
any (Ok x) = omega arith
any (Err e) = tt

pub vbr_forward : (w : ℕ) (c : Cursor) → Forward 0 c (vbr w c)
unfolding vbr
vbr_forward w c = read_forward 0 c (vbr_at w c.rest) (any _) (vbr_most w c.rest _ refl)

fixed_most : (w : ℕ) (bits : List Bool) → IfOk (fixed_at w bits) (λ x. x.1 ≤ length bits)
fixed_most w bits = elim (cases_lt (length bits) w) [
  | inl h ↦ rw (fixed_short w bits h) tt
  | inr h ↦ rw (fixed_whole w bits h) h
]

fixed_least : (w : ℕ) (bits : List Bool) → IfOk (fixed_at w bits) (λ x. w ≤ x.1)
fixed_least w bits = elim (cases_lt (length bits) w) [
  | inl h ↦ rw (fixed_short w bits h) tt
  | inr h ↦ rw (fixed_whole w bits h) (omega arith)
]

pub fixed_forward : (w : ℕ) (c : Cursor) → Forward w c (fixed w c)
unfolding fixed
fixed_forward w c = read_forward w c (fixed_at w c.rest) (fixed_least w c.rest) (fixed_most w c.rest)

pub fixed_forward_any : (w : ℕ) (c : Cursor) → Forward 0 c (fixed w c)
unfolding fixed
fixed_forward_any w c = read_forward 0 c (fixed_at w c.rest) (any _) (fixed_most w c.rest)

-- the parts of a definition

field_width_forward : (c : Cursor) → Forward 0 c (field_width c)
unfolding field_width
field_width_forward c = bind_first 0 c (vbr 5 c) _ (vbr_forward 5 c) (λ w d. forward_if 0 d _ _ _ (forward_here _ d) (forward_if 0 d _ _ _ (forward_none 0 d _) (forward_here _ d)))

chunk_width_forward : (c : Cursor) → Forward 0 c (chunk_width c)
unfolding chunk_width
chunk_width_forward c = bind_first 0 c (vbr 5 c) _ (vbr_forward 5 c) (λ w d. forward_if 0 d _ _ _ (forward_here _ d) (forward_if 0 d _ _ _ (forward_none 0 d _) (forward_here _ d)))

encoding_of_forward : (bit n : ℕ) (d : Cursor) → Forward 0 d (encoding_of bit n d)
encoding_of_forward bit n d =
    forward_if 0 d (n == 1) _ _ (forward_here AsField d) (forward_if 0 d (n == 2) _ _ (forward_here AsChunks d) (forward_if 0 d (n == 3) _ _ (forward_here AsArray d)
    (forward_if 0 d (n == 4) _ _ (forward_here AsLetter d) (forward_if 0 d (n == 5) _ _ (forward_here AsBlob d) (forward_none 0 d _)))))

encoding_forward : (c : Cursor) → Forward 0 c (encoding c)
unfolding encoding
encoding_forward c = bind_first 0 c (fixed 3 c) (λ n d. encoding_of c.at n d) (fixed_forward_any 3 c) (λ n d. encoding_of_forward c.at n d)

scalar_by_forward : (e : Encoding) (bit : ℕ) (c : Cursor) → Forward 0 c (scalar_by e bit c)
unfolding scalar_by
scalar_by_forward AsField bit c = field_width_forward c
scalar_by_forward AsChunks bit c = chunk_width_forward c
scalar_by_forward AsArray bit c = forward_none 0 c _
scalar_by_forward AsLetter bit c = forward_here _ c
scalar_by_forward AsBlob bit c = forward_none 0 c _

literal_forward : (c : Cursor) → Forward 0 c (literal c)
unfolding literal
literal_forward c = bind_first 0 c (vbr 8 c) _ (vbr_forward 8 c) (λ n d. forward_here _ d)

first_operand_forward : (c : Cursor) → Forward 1 c (first_operand c)
unfolding first_operand
first_operand_forward c = bind_first 1 c (fixed 1 c) _ (fixed_forward 1 c) (λ flag d.
    forward_if 0 d _ _ _ (literal_forward d) (bind_first 0 d (encoding d) _ (encoding_forward d) (λ e f. scalar_by_forward e d.at f)))

element_of_forward : (bit : ℕ) (s : ValueSpelling) (c : Cursor) → Forward 0 c (element_of bit s c)
element_of_forward bit (Known n) c = forward_none 0 c _
element_of_forward bit (Field w) c = forward_here _ c
element_of_forward bit (Chunks w) c = forward_here _ c
element_of_forward bit Letter c = forward_here _ c

element_forward : (c : Cursor) → Forward 0 c (element c)
unfolding element
element_forward c = bind_first 0 c (fixed 1 c) _ (fixed_forward_any 1 c) (λ flag d.
    forward_if 0 d _ _ _ (forward_none 0 d _) (bind_first 0 d (encoding d) _ (encoding_forward d) (λ e f.
    bind_first 0 f (scalar_by e d.at f) _ (scalar_by_forward e d.at f) (λ s g. element_of_forward f.at s g))))

value_forward : (e : Encoding) (bit : ℕ) (c : Cursor) → Forward 0 c (scalar_by e bit c >>= λ s d. Ok (Value s, d))
value_forward e bit c = bind_first 0 c (scalar_by e bit c) _ (scalar_by_forward e bit c) (λ s d. forward_here _ d)

part_by_forward : (e : Encoding) (left bit : ℕ) (c : Cursor) → Forward 0 c (part_by e left bit c)
unfolding part_by
part_by_forward AsArray left bit c = forward_if 0 c _ _ _ (bind_first 0 c (element c) _ (element_forward c) (λ s d. forward_here _ d)) (forward_none 0 c _)
part_by_forward AsBlob left bit c = forward_if 0 c _ _ _ (forward_here _ c) (forward_none 0 c _)
part_by_forward AsField left bit c = value_forward AsField bit c
part_by_forward AsChunks left bit c = value_forward AsChunks bit c
part_by_forward AsLetter left bit c = value_forward AsLetter bit c

part_forward : (left : ℕ) (c : Cursor) → Forward 0 c (part left c)
unfolding part
part_forward left c = bind_first 0 c (fixed 1 c) _ (fixed_forward_any 1 c) (λ flag d.
    forward_if 0 d _ _ _ (bind_first 0 d (literal d) _ (literal_forward d) (λ s e. forward_here _ e))
    (bind_first 0 d (encoding d) _ (encoding_forward d) (λ e f. part_by_forward e left d.at f)))

by_part_forward : {A : Type 0} (c : Cursor) (p : DefinitionPart) (more : ValueSpelling → Found A) (done : Tail → Found A) → ((s : ValueSpelling) → Forward 0 c (more s)) → ((t : Tail) → Forward 0 c (done t)) → Forward 0 c (by_part p more done)
by_part_forward c (Value s) more done h k = h s
by_part_forward c (End t) more done h k = k t

parts_forward : (n : ℕ) (front : List ValueSpelling) (c : Cursor) → Forward 0 c (parts n front c)
unfolding parts
parts_forward zero front c = forward_here _ c
parts_forward (suc n) front c = bind_first 0 c (part (suc n) c) _ (part_forward (suc n) c) (λ p d.
    by_part_forward d p _ _ (λ s. parts_forward n (front ++ s ∷ []) d) (λ t. forward_here _ d))

pub abbreviation_forward : (c : Cursor) → Forward 1 c (defined_abbreviation c)
unfolding defined_abbreviation
abbreviation_forward c = bind_then 1 c (vbr 5 c) _ (vbr_forward 5 c) (λ count d.
    forward_if 1 d _ _ _ (forward_none 1 d _) (bind_first 1 d (first_operand d) _ (first_operand_forward d) (λ code e.
    bind_first 0 e (parts (count - 1) [] e) _ (parts_forward (count - 1) [] e) (λ rest f. forward_here _ f))))
