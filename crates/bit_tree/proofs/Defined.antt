-- A definition is read as it was written.
use Rattle.std.proofs.Common.{◌≡◌, ℕ, suc, ◌+◌, ◌-◌, ◌<◌, ◌≤◌, ◌^◌, ◌==◌, ◌||◌, Bool, true, false, List, [], ◌∷◌, ◌++◌, length, Option, Some, None, Ok, if◌then◌else◌, refl, arith, inl, inr, append_assoc, length-append}
use Rattle.std.specs.Prelude.{nat_lt, option_map}
use Rattle.std.specs.List.{list_all, flat_map}
use Rattle.std.proofs.lemmas.List.{append-nil}
use Rattle.std.proofs.lemmas.Bool.{cases_Bool, and_parts, ltb-true, ltb-false, le-ltb, eqb-true, eqb-false, ne_eqb, le-leb}
use Rattle.std.proofs.lemmas.Option.{same_Some}
use Rattle.bit_stream.specs.Bits.Bits.{bits_of}
use Rattle.bit_stream.specs.Bits.Cursor.{Cursor, Found, ◌>>=◌}
use Rattle.bit_stream.specs.Bits.Reading.{fixed, vbr}
use Rattle.bit_stream.specs.Answers.{refuse}
use Rattle.bit_stream.specs.declared.abbreviation.AbbrevOp.{AbbrevOp}
use Rattle.bit_stream.specs.declared.abbreviation.AbbrevOp.TheVariants.{Literal, Fixed, Vbr, Array, Char6, Blob}
use Rattle.bit_stream.specs.declared.abbreviation.ValueSpelling.{ValueSpelling}
use Rattle.bit_stream.specs.declared.abbreviation.ValueSpelling.TheVariants.{Known, Field, Chunks, Letter}
use Rattle.bit_stream.specs.declared.abbreviation.Tail.{Tail}
use Rattle.bit_stream.specs.declared.abbreviation.Tail.TheVariants.{NoTail, Elements, Bytes}
use Rattle.bit_stream.specs.declared.definition.Encoding.{Encoding}
use Rattle.bit_stream.specs.declared.definition.Encoding.TheVariants.{AsField, AsChunks, AsArray, AsLetter, AsBlob}
use Rattle.bit_stream.specs.declared.definition.DefinitionPart.TheVariants.{Value, End}
use Rattle.bit_stream.specs.Abbreviation.{AdmittedAbbreviation}
use Rattle.bit_stream.specs.Definition.{field_width, chunk_width, encoding_of, encoding, scalar_by, literal, first_operand, element_of, element, part_by, part, parts, defined_abbreviation}
use Rattle.bit_stream.specs.Spelling.{chunks, operand_bits, definition_bits, scalar_of, element_scalar, rest_of, abbreviation_for}
use Rattle.bit_stream.specs.Law.{ReadsAs, is_sound}
use Rattle.bit_tree.specs.Written.{is_number}
use Rattle.bit_tree.proofs.Values.{Sound, sound_tail}
use Rattle.bit_stream.proofs.ReadBack.{fixed_reads, vbr_reads, then_done}

-- the width of a field or of chunks

field_reads : (w : ℕ) (s : ValueSpelling) → scalar_of (Fixed w) ≡ Some s → ReadsAs field_width (chunks 5 w) s
unfolding field_width
field_reads w s is at rest = by_zero (w == 0) refl where
  by_wide : (b : Bool) → nat_lt 64 w ≡ b → (w == 0) ≡ false → field_width (record { at = at; rest = chunks 5 w ++ rest }) ≡ Ok (s, record { at = at + length (chunks 5 w); rest = rest })
  by_wide true wide some = let never = rw (some, wide) at is in absurd (cc)
  by_wide false wide some =
      let s_is : Field w ≡ s = cc (rw (some, wide) at is) in
      rw (vbr_reads 5 w (omega arith) (omega (arith, ltb-false 64 w wide)) at rest, some, wide, s_is) refl

  by_zero : (b : Bool) → (w == 0) ≡ b → field_width (record { at = at; rest = chunks 5 w ++ rest }) ≡ Ok (s, record { at = at + length (chunks 5 w); rest = rest })
  by_zero true none =
      let s_is : Known 0 ≡ s = cc (rw none at is) in
      rw (vbr_reads 5 w (omega arith) (omega (arith, eqb-true w 0 none)) at rest, none, s_is) refl
  by_zero false some = by_wide (nat_lt 64 w) refl some

chunk_reads : (w : ℕ) (s : ValueSpelling) → scalar_of (Vbr w) ≡ Some s → ReadsAs chunk_width (chunks 5 w) s
unfolding chunk_width
chunk_reads w s is at rest = by_zero (w == 0) refl where
  by_wide : (b : Bool) → (w == 1) || nat_lt 32 w ≡ b → (w == 0) ≡ false → chunk_width (record { at = at; rest = chunks 5 w ++ rest }) ≡ Ok (s, record { at = at + length (chunks 5 w); rest = rest })
  by_wide true wide some = let never = rw (some, wide) at is in absurd (cc)
  by_wide false wide some =
      let s_is : Chunks w ≡ s = cc (rw (some, wide) at is) in
      let small : w < 2 ^ 64 = elim (cases_Bool (nat_lt 32 w)) [
        | inl big ↦ absurd (is_big (w == 1) (nat_lt 32 w) big wide)
        | inr few ↦ omega (arith, ltb-false 32 w few)
      ] in
      rw (vbr_reads 5 w (omega arith) small at rest, some, wide, s_is) refl where
        is_big : (a b : Bool) → b ≡ true → a || b ≡ false → ⊥
        is_big true b h k = cc
        is_big false b h k = cc

  by_zero : (b : Bool) → (w == 0) ≡ b → chunk_width (record { at = at; rest = chunks 5 w ++ rest }) ≡ Ok (s, record { at = at + length (chunks 5 w); rest = rest })
  by_zero true none =
      let s_is : Known 0 ≡ s = cc (rw none at is) in
      rw (vbr_reads 5 w (omega arith) (omega (arith, eqb-true w 0 none)) at rest, none, s_is) refl
  by_zero false some = by_wide ((w == 1) || nat_lt 32 w) refl some

-- the flag, the encoding, and what its encoding spells
flagged : {B : Type 0} (lit : ℕ → Cursor → Found B) (g : Encoding → ℕ → Cursor → Found B) (k : ℕ) (e : Encoding) (bits : List Bool) (x : B) → k < 8
    → ((bit : ℕ) (d : Cursor) → encoding_of bit k d ≡ Ok (e, d)) → ((bit : ℕ) → ReadsAs (g e bit) bits x)
    → ReadsAs (λ c. fixed 1 c >>= λ flag d. if flag == 1 then lit c.at d else (encoding d >>= λ e f. g e d.at f)) (bits_of 1 0 ++ bits_of 3 k ++ bits) x
unfolding encoding
flagged lit g k e bits x small code reads at rest =
    let flag = bits_of 1 0 in
    let number = bits_of 3 k in
    let whole : (flag ++ number ++ bits) ++ rest ≡ flag ++ (number ++ (bits ++ rest)) = simp append_assoc in
    let place : at + length flag + length number + length bits ≡ at + length (flag ++ number ++ bits) = omega (arith, length-append (flag ++ number) bits, length-append flag number) in
    rw (whole, fixed_reads 1 0 (omega arith) at (number ++ (bits ++ rest)), fixed_reads 3 k (omega arith) (at + length flag) (bits ++ rest), code, reads (at + length flag) (at + length flag + length number) rest, place) refl

-- a literal behind its flag
known : {B : Type 0} (lit : ℕ → Cursor → Found B) (g : Cursor → Found B) (bits : List Bool) (x : B) → ((bit : ℕ) → ReadsAs (lit bit) bits x)
    → ReadsAs (λ c. fixed 1 c >>= λ flag d. if flag == 1 then lit c.at d else g d) (bits_of 1 1 ++ bits) x
known lit g bits x reads at rest =
    let flag = bits_of 1 1 in
    let place : at + length flag + length bits ≡ at + length (flag ++ bits) = omega (arith, length-append flag bits) in
    rw (append_assoc, fixed_reads 1 1 (omega arith) at (bits ++ rest), reads at (at + length flag) rest, place) refl

literal_reads : (n : ℕ) → n < 2 ^ 64 → ReadsAs literal (chunks 8 n) (Known n)
unfolding literal
literal_reads n small = then_done (vbr 8) (λ x. Known x) (chunks 8 n) n (vbr_reads 8 n (omega arith) small)

letter_reads : {A : Type 0} (x : A) → ReadsAs (λ c. Ok (x, c)) [] x
letter_reads x at rest = let place : at ≡ at + 0 = omega arith in rw (← place) refl

no_bits : {A : Type 0} (f : Cursor → Found A) (bits : List Bool) (x : A) → ReadsAs f (bits ++ []) x → ReadsAs f bits x
no_bits f bits x h = rw append-nil at h

first_reads : (op : AbbrevOp) (s : ValueSpelling) → is_number op ≡ true → scalar_of op ≡ Some s → ReadsAs first_operand (operand_bits op) s
unfolding first_operand scalar_by
first_reads (Literal n) s small is =
    let s_is : Known n ≡ s = cc is in
    rw s_is at (known (λ bit d. literal d) (λ d. encoding d >>= λ e f. scalar_by e d.at f) (chunks 8 n) (Known n) (λ bit. literal_reads n (ltb-true n (2 ^ 64) small)))
first_reads (Fixed w) s small is = flagged (λ bit d. literal d) scalar_by 1 AsField (chunks 5 w) s (omega arith) (λ bit d. refl) (λ bit. field_reads w s is)
first_reads (Vbr w) s small is = flagged (λ bit d. literal d) scalar_by 2 AsChunks (chunks 5 w) s (omega arith) (λ bit d. refl) (λ bit. chunk_reads w s is)
first_reads Array s small is = absurd (cc)
first_reads Char6 s small is =
    let s_is : Letter ≡ s = cc is in
    rw s_is at (no_bits first_operand (bits_of 1 0 ++ bits_of 3 4) Letter (flagged (λ bit d. literal d) scalar_by 4 AsLetter [] Letter (omega arith) (λ bit d. refl) (λ bit. letter_reads Letter)))
first_reads Blob s small is = absurd (cc)

-- a value by its encoding, as a part of a definition
as_value : (f : Cursor → Found ValueSpelling) (bits : List Bool) (s : ValueSpelling) → ReadsAs f bits s → ReadsAs (λ c. f c >>= λ s d. Ok (Value s, d)) bits (Value s)
as_value f bits s h = then_done f (λ x. Value x) bits s h

part_reads : (left : ℕ) (op : AbbrevOp) (s : ValueSpelling) → is_number op ≡ true → scalar_of op ≡ Some s → ReadsAs (part left) (operand_bits op) (Value s)
unfolding part part_by scalar_by
part_reads left (Literal n) s small is =
    let s_is : Known n ≡ s = cc is in
    rw s_is at (known (λ bit d. literal d >>= λ s e. Ok (Value s, e)) (λ d. encoding d >>= λ e f. part_by e left d.at f) (chunks 8 n) (Value (Known n)) (λ bit. as_value literal (chunks 8 n) (Known n) (literal_reads n (ltb-true n (2 ^ 64) small))))
part_reads left (Fixed w) s small is = flagged (λ bit d. literal d >>= λ s e. Ok (Value s, e)) (λ e bit f. part_by e left bit f) 1 AsField (chunks 5 w) (Value s) (omega arith) (λ bit d. refl) (λ bit. as_value field_width (chunks 5 w) s (field_reads w s is))
part_reads left (Vbr w) s small is = flagged (λ bit d. literal d >>= λ s e. Ok (Value s, e)) (λ e bit f. part_by e left bit f) 2 AsChunks (chunks 5 w) (Value s) (omega arith) (λ bit d. refl) (λ bit. as_value chunk_width (chunks 5 w) s (chunk_reads w s is))
part_reads left Array s small is = absurd (cc)
part_reads left Char6 s small is =
    let s_is : Letter ≡ s = cc is in
    rw s_is at (no_bits (part left) (bits_of 1 0 ++ bits_of 3 4) (Value Letter) (flagged (λ bit d. literal d >>= λ s e. Ok (Value s, e)) (λ e bit f. part_by e left bit f) 4 AsLetter [] (Value Letter) (omega arith) (λ bit d. refl) (λ bit. letter_reads (Value Letter))))
part_reads left Blob s small is = absurd (cc)

-- an array's element
record Element (e : AbbrevOp) (tail : Tail) : Type 0 where
  scalar : ValueSpelling
  is : Elements scalar ≡ tail
  sound : is_sound scalar ≡ true
  reads : ReadsAs element (operand_bits e) scalar

plain_reads : (f : Cursor → Found ValueSpelling) (bits : List Bool) (s : ValueSpelling) → ((bit : ℕ) (d : Cursor) → element_of bit s d ≡ Ok (s, d)) → ReadsAs f bits s → ReadsAs (λ c. f c >>= λ s g. element_of c.at s g) bits s
plain_reads f bits s plain h at rest = rw (h at rest, plain) refl

vbr_sound : (w : ℕ) (s : ValueSpelling) → scalar_of (Vbr w) ≡ Some s → is_sound s ≡ true
vbr_sound w s is = by_zero (w == 0) refl where
  by_wide : (b : Bool) → (w == 1) || nat_lt 32 w ≡ b → (w == 0) ≡ false → is_sound s ≡ true
  by_wide true wide some = let never = rw (some, wide) at is in absurd (cc)
  by_wide false wide some =
      let s_is : Chunks w ≡ s = cc (rw (some, wide) at is) in
      let low : 2 ≤ w = elim (cases_Bool (w == 1)) [
        | inl one ↦ absurd (cc (rw one at wide))
        | inr more ↦ let a = eqb-false w 0 some in let b = eqb-false w 1 more in omega arith
      ] in
      rw (← s_is) (le-leb 2 w low)

  by_zero : (b : Bool) → (w == 0) ≡ b → is_sound s ≡ true
  by_zero true none = let s_is : Known 0 ≡ s = cc (rw none at is) in rw (← s_is) refl
  by_zero false some = by_wide ((w == 1) || nat_lt 32 w) refl some

field_sound : (w : ℕ) (s : ValueSpelling) → scalar_of (Fixed w) ≡ Some s → is_sound s ≡ true
field_sound w s is = by_zero (w == 0) refl where
  by_wide : (b : Bool) → nat_lt 64 w ≡ b → (w == 0) ≡ false → is_sound s ≡ true
  by_wide true wide some = let never = rw (some, wide) at is in absurd (cc)
  by_wide false wide some = let s_is : Field w ≡ s = cc (rw (some, wide) at is) in rw (← s_is) refl

  by_zero : (b : Bool) → (w == 0) ≡ b → is_sound s ≡ true
  by_zero true none = let s_is : Known 0 ≡ s = cc (rw none at is) in rw (← s_is) refl
  by_zero false some = by_wide (nat_lt 64 w) refl some

scalar_sound : (op : AbbrevOp) (s : ValueSpelling) → scalar_of op ≡ Some s → is_sound s ≡ true
scalar_sound (Literal n) s is = let s_is : Known n ≡ s = cc in rw (← s_is) refl
scalar_sound (Fixed w) s is = field_sound w s is
scalar_sound (Vbr w) s is = vbr_sound w s is
scalar_sound Array s is = absurd (cc)
scalar_sound Char6 s is = let s_is : Letter ≡ s = cc in rw (← s_is) refl
scalar_sound Blob s is = absurd (cc)

element_from : (op : AbbrevOp) (k : ℕ) (e : Encoding) (bits : List Bool) (s : ValueSpelling) (tail : Tail) → k < 8 → ((bit : ℕ) (d : Cursor) → encoding_of bit k d ≡ Ok (e, d)) → ((bit : ℕ) → ReadsAs (scalar_by e bit) bits s)
    → bits_of 1 0 ++ bits_of 3 k ++ bits ≡ operand_bits op → is_sound s ≡ true → ((bit : ℕ) (d : Cursor) → element_of bit s d ≡ Ok (s, d)) → Elements s ≡ tail → Element op tail
unfolding element
element_from op k e bits s tail small code reads spelled sound plain is = record { scalar = s; is = is; sound = sound; reads = rw spelled at (flagged (λ bit d. refuse bit) (λ e bit f. scalar_by e bit f >>= λ s g. element_of f.at s g) k e bits s small code (λ bit. plain_reads (scalar_by e bit) bits s plain (reads bit))) }

element_width : (op : AbbrevOp) (k : ℕ) (e : Encoding) (bits : List Bool) (s : ValueSpelling) (tail : Tail) → k < 8 → ((bit : ℕ) (d : Cursor) → encoding_of bit k d ≡ Ok (e, d)) → ((bit : ℕ) → ReadsAs (scalar_by e bit) bits s)
    → bits_of 1 0 ++ bits_of 3 k ++ bits ≡ operand_bits op → is_sound s ≡ true → element_scalar (Some s) ≡ Some tail → Element op tail
element_width op k e bits (Known n) tail small code reads spelled sound is = absurd (cc)
element_width op k e bits (Field w) tail small code reads spelled sound is = element_from op k e bits (Field w) tail small code reads spelled sound (λ bit d. refl) (cc)
element_width op k e bits (Chunks w) tail small code reads spelled sound is = element_from op k e bits (Chunks w) tail small code reads spelled sound (λ bit d. refl) (cc)
element_width op k e bits Letter tail small code reads spelled sound is = element_from op k e bits Letter tail small code reads spelled sound (λ bit d. refl) (cc)

element_at : (op : AbbrevOp) (tail : Tail) → element_scalar (scalar_of op) ≡ Some tail → Element op tail
unfolding scalar_by
element_at (Literal n) tail is = absurd (cc)
element_at (Fixed w) tail is = of_scalar (scalar_of (Fixed w)) refl (λ s has. element_width (Fixed w) 1 AsField (chunks 5 w) s tail (omega arith) (λ bit d. refl) (λ bit. field_reads w s has) refl (field_sound w s has) (rw has at is)) where
  of_scalar : (o : Option ValueSpelling) → scalar_of (Fixed w) ≡ o → ((s : ValueSpelling) → scalar_of (Fixed w) ≡ Some s → Element (Fixed w) tail) → Element (Fixed w) tail
  of_scalar None has f = let never = rw has at is in absurd (cc)
  of_scalar (Some s) has f = f s has
element_at (Vbr w) tail is = of_scalar (scalar_of (Vbr w)) refl (λ s has. element_width (Vbr w) 2 AsChunks (chunks 5 w) s tail (omega arith) (λ bit d. refl) (λ bit. chunk_reads w s has) refl (vbr_sound w s has) (rw has at is)) where
  of_scalar : (o : Option ValueSpelling) → scalar_of (Vbr w) ≡ o → ((s : ValueSpelling) → scalar_of (Vbr w) ≡ Some s → Element (Vbr w) tail) → Element (Vbr w) tail
  of_scalar None has f = let never = rw has at is in absurd (cc)
  of_scalar (Some s) has f = f s has
element_at Array tail is = absurd (cc)
element_at Char6 tail is = element_width Char6 4 AsLetter [] Letter tail (omega arith) (λ bit d. refl) (λ bit. letter_reads Letter) (append-nil (bits_of 1 0 ++ bits_of 3 4)) refl is
element_at Blob tail is = absurd (cc)

-- the operands behind the first
record Rest (front : List ValueSpelling) (ops : List AbbrevOp) (rest : List ValueSpelling × Tail) : Type 0 where
  sound : list_all is_sound front ≡ true → list_all is_sound rest.0 ≡ true
  tail : sound_tail rest.1 ≡ true
  reads : ReadsAs (parts (length ops) front) (flat_map operand_bits ops) rest

sound_with : (front : List ValueSpelling) (s : ValueSpelling) → list_all is_sound front ≡ true → is_sound s ≡ true → list_all is_sound (front ++ s ∷ []) ≡ true
sound_with [] s h k = rw k refl
sound_with (x ∷ xs) s h k = let both = and_parts (is_sound x) (list_all is_sound xs) h in rw (both.0, sound_with xs s both.1 k) refl

rest_none : (front : List ValueSpelling) (rest : List ValueSpelling × Tail) → let one : List ValueSpelling × Tail = (front, NoTail) in one ≡ rest → Rest front [] rest
unfolding parts
rest_none front rest is = rw (← is) (record { sound = λ h. h; tail = refl; reads = λ at bits. (let place : at ≡ at + 0 = omega arith in rw (← place) refl) })

rest_more : (front : List ValueSpelling) (op : AbbrevOp) (ops : List AbbrevOp) (rest : List ValueSpelling × Tail) (s : ValueSpelling) → is_number op ≡ true → scalar_of op ≡ Some s → Rest (front ++ s ∷ []) ops rest → Rest front (op ∷ ops) rest
unfolding parts
rest_more front op ops rest s small is more = record {
  sound = λ h. more.sound (sound_with front s h (scalar_sound op s is));
  tail = more.tail;
  reads = λ at bits. (
      let here = operand_bits op in
      let behind = flat_map operand_bits ops in
      let place : at + length here + length behind ≡ at + length (here ++ behind) = omega (arith, length-append here behind) in
      rw (append_assoc, part_reads (suc (length ops)) op s small is at (behind ++ bits), more.reads (at + length here) bits, place) refl);
}

-- an array, and its element behind it
rest_array : (front : List ValueSpelling) (e : AbbrevOp) (rest : List ValueSpelling × Tail) (tail : Tail) → Element e tail → (let one : List ValueSpelling × Tail = (front, tail) in one ≡ rest) → Rest front (Array ∷ e ∷ []) rest
unfolding parts part part_by
rest_array front e rest tail inside is = rw (← is, ← inside.is) (record {
  sound = λ h. h;
  tail = inside.sound;
  reads = λ at bits. (
      let here = bits_of 1 0 ++ bits_of 3 3 ++ operand_bits e in
      let way = flagged (λ bit d. literal d >>= λ s e. Ok (Value s, e)) (λ e bit f. part_by e 2 bit f) 3 AsArray (operand_bits e) (End (Elements inside.scalar)) (omega arith) (λ bit d. refl)
      (λ bit. then_done element (λ s. End (Elements s)) (operand_bits e) inside.scalar inside.reads) in
      let all : flat_map operand_bits (Array ∷ e ∷ []) ≡ here = simp (append_assoc, append-nil) in
      rw (all, way at bits) refl);
})

rest_blob : (front : List ValueSpelling) (rest : List ValueSpelling × Tail) → (let one : List ValueSpelling × Tail = (front, Bytes) in one ≡ rest) → Rest front (Blob ∷ []) rest
unfolding parts part part_by
rest_blob front rest is = rw (← is) (record {
  sound = λ h. h;
  tail = refl;
  reads = λ at bits. (
      let here = bits_of 1 0 ++ bits_of 3 5 in
      let way = no_bits (part 1) here (End Bytes) (flagged (λ bit d. literal d >>= λ s e. Ok (Value s, e)) (λ e bit f. part_by e 1 bit f) 5 AsBlob [] (End Bytes) (omega arith) (λ bit d. refl) (λ bit. letter_reads (End Bytes))) in
      let all : flat_map operand_bits (Blob ∷ []) ≡ here = append-nil here in
      rw (all, way at bits) refl);
})

rest_at : (front : List ValueSpelling) (ops : List AbbrevOp) (rest : List ValueSpelling × Tail) → list_all is_number ops ≡ true → rest_of front ops ≡ Some rest → Rest front ops rest
unfolding rest_of
rest_at front [] rest small is = rest_none front rest (same_Some _ _ is)
rest_at front (Array ∷ []) rest small is = absurd (cc)
rest_at front (Array ∷ e ∷ []) rest small is = by_element (element_scalar (scalar_of e)) refl where
  by_element : (o : Option Tail) → element_scalar (scalar_of e) ≡ o → Rest front (Array ∷ e ∷ []) rest
  by_element None none = let never = rw none at is in absurd (cc)
  by_element (Some tail) some = rest_array front e rest tail (element_at e tail some) (same_Some _ _ (rw some at is))
rest_at front (Array ∷ e ∷ f ∷ ops) rest small is = absurd (cc)
rest_at front (Blob ∷ []) rest small is = rest_blob front rest (same_Some _ _ is)
rest_at front (Blob ∷ op ∷ ops) rest small is = absurd (cc)
rest_at front (Literal n ∷ ops) rest small is =
    let both = and_parts (is_number (Literal n)) (list_all is_number ops) small in
    rest_more front (Literal n) ops rest (Known n) both.0 refl (rest_at (front ++ Known n ∷ []) ops rest both.1 is)
rest_at front (Fixed w ∷ ops) rest small is = by_scalar (scalar_of (Fixed w)) refl (λ s more. rest_at (front ++ s ∷ []) ops rest small more) where
  by_scalar : (o : Option ValueSpelling) → scalar_of (Fixed w) ≡ o → ((s : ValueSpelling) → rest_of (front ++ s ∷ []) ops ≡ Some rest → Rest (front ++ s ∷ []) ops rest) → Rest front (Fixed w ∷ ops) rest
  by_scalar None none f = let never = rw none at is in absurd (cc)
  by_scalar (Some s) some f = rest_more front (Fixed w) ops rest s refl some (f s (rw some at is))
rest_at front (Vbr w ∷ ops) rest small is = by_scalar (scalar_of (Vbr w)) refl (λ s more. rest_at (front ++ s ∷ []) ops rest small more) where
  by_scalar : (o : Option ValueSpelling) → scalar_of (Vbr w) ≡ o → ((s : ValueSpelling) → rest_of (front ++ s ∷ []) ops ≡ Some rest → Rest (front ++ s ∷ []) ops rest) → Rest front (Vbr w ∷ ops) rest
  by_scalar None none f = let never = rw none at is in absurd (cc)
  by_scalar (Some s) some f = rest_more front (Vbr w) ops rest s refl some (f s (rw some at is))
rest_at front (Char6 ∷ ops) rest small is = rest_more front Char6 ops rest Letter refl refl (rest_at (front ++ Letter ∷ []) ops rest small is)

-- the whole definition
pub record Admitted (ops : List AbbrevOp) (t : AdmittedAbbreviation) : Type 0 where
  pub sound : Sound t
  pub reads : ReadsAs defined_abbreviation (definition_bits ops) t

admitted_by : (op : AbbrevOp) (ops : List AbbrevOp) (code : ValueSpelling) (rest : List ValueSpelling × Tail) → length ops < 64 → is_number op ≡ true → scalar_of op ≡ Some code → Rest [] ops rest
    → Admitted (op ∷ ops) (record { code = code; operands = rest.0; tail = rest.1 })
unfolding defined_abbreviation definition_bits
admitted_by op ops code rest few small is behind = record {
  sound = record { code = scalar_sound op code is; operands = behind.sound refl; tail = behind.tail };
  reads = λ at bits. (
      let k = suc (length ops) in
      let count = chunks 5 k in
      let here = operand_bits op in
      let more = flat_map operand_bits ops in
      let less : k - 1 ≡ length ops = omega arith in
      let some : (k == 0) ≡ false = ne_eqb k 0 (λ e. omega arith) in
      let within : nat_lt 64 k ≡ false = le-ltb 64 k (omega arith) in
      let whole : (count ++ (here ++ more)) ++ bits ≡ count ++ (here ++ (more ++ bits)) = simp append_assoc in
      let place : at + length count + length here + length more ≡ at + length (count ++ (here ++ more)) = omega (arith, length-append count (here ++ more), length-append here more) in
      rw (whole, vbr_reads 5 k (omega arith) (omega arith) at (here ++ (more ++ bits)), some, within, first_reads op code small is (at + length count) (more ++ bits), less, behind.reads (at + length count + length here) bits, place) refl);
}

pub admitted : (ops : List AbbrevOp) (t : AdmittedAbbreviation) → list_all is_number ops ≡ true → abbreviation_for ops ≡ Some t → Admitted ops t
unfolding abbreviation_for
admitted [] t small is = absurd (cc)
admitted (op ∷ ops) t small is = by_count (nat_lt 64 (suc (length ops))) refl where
  by_rest : (code : ValueSpelling) (o : Option (List ValueSpelling × Tail)) → scalar_of op ≡ Some code → rest_of [] ops ≡ o → length ops < 64 → (option_map (λ rest. record { code = code; operands = rest.0; tail = rest.1 }) (rest_of [] ops) ≡ Some t) → Admitted (op ∷ ops) t
  by_rest code None has none few all = let never = rw none at all in absurd (cc)
  by_rest code (Some rest) has some few all =
      let both = and_parts (is_number op) (list_all is_number ops) small in
      let t_is : record { code = code; operands = rest.0; tail = rest.1 } ≡ t = same_Some _ _ (rw some at all) in
      rw t_is at (admitted_by op ops code rest few both.0 has (rest_at [] ops rest both.1 some))

  by_code : (o : Option ValueSpelling) → scalar_of op ≡ o → nat_lt 64 (suc (length ops)) ≡ false → Admitted (op ∷ ops) t
  by_code None none few = let never = rw (few, none) at is in absurd (cc)
  by_code (Some code) has few = by_rest code (rest_of [] ops) has refl (omega (arith, ltb-false 64 (suc (length ops)) few)) (rw (few, has) at is)

  by_count : (b : Bool) → nat_lt 64 (suc (length ops)) ≡ b → Admitted (op ∷ ops) t
  by_count true many = let never = rw many at is in absurd (cc)
  by_count false few = by_code (scalar_of op) refl few
