-- What a writer wrote is read as what was written.
use Rattle.std.proofs.Common.{◌≡◌, ℕ, zero, suc, ◌+◌, ◌<◌, ◌≤◌, ◌^◌, Bool, true, false, List, [], ◌∷◌, ◌++◌, length, take, drop, Some, Ok, refl, sym, arith, append_assoc, length-append, length-drop, inl, inr}
use Rattle.std.specs.Prelude.{nat_lt, nat_le, ◌==◌, ◌&&◌, ◌||◌, not, slice_index}
use Rattle.std.specs.List.{AllByRecursion, list_all}
use Rattle.std.proofs.lemmas.List.{drop_at, append-nil, take-append-drop}
use Rattle.std.proofs.lemmas.Bool.{cases_lt, ltb-true, leb-true, eqb-true, lt-leb, le-leb, ne_eqb}
use Rattle.std.proofs.Math.Pow.{pow_mono}
use Rattle.bit_stream.specs.Bits.Bits.{bits_of}
use Rattle.bit_stream.specs.Bits.Writing.{vbr_bits}
use Rattle.bit_stream.specs.Bits.Cursor.{Cursor, Found, ◌>>=◌}
use Rattle.bit_stream.specs.Bits.Reading.{fixed, vbr}
use Rattle.bit_stream.proofs.OnBits.RoundTrip.{fixed_back, vbr_back}
use Rattle.bit_stream.specs.declared.entry.Entry.TheVariants.{Record}
use Rattle.bit_stream.specs.declared.abbreviation.ValueSpelling.{ValueSpelling}
use Rattle.bit_stream.specs.declared.abbreviation.ValueSpelling.TheVariants.{Known, Field, Chunks, Letter}
use Rattle.bit_stream.specs.declared.item.TheConstants.{ID_LIMIT}
use Rattle.bit_stream.specs.Scope.{Scope, abbreviation_of}
use Rattle.bit_stream.specs.declared.abbreviation.Tail.{Tail}
use Rattle.bit_stream.specs.declared.abbreviation.Tail.TheVariants.{NoTail, Elements, Bytes}
use Rattle.bit_stream.specs.Abbreviation.{AdmittedAbbreviation}
use Rattle.bit_stream.specs.Record.{letters, value_by, code_by, operand, elements, each, counted, tail_by, ReadRecord, unabbreviated, abbreviated}
use Rattle.bit_stream.specs.Entry.{item, inside, by_abbreviation, record_by, recorded, is_top, is_blockinfo}
use Rattle.bit_stream.specs.Spelling.{chunks, is_letter, letter_number, fits, value_bits, all_fit, all_bits, record_bits, each_fit, each_bits, tail_fits, with_tail, record_fits, with_record}
use Rattle.bit_stream.specs.Law.{ReadsAs, AreOperands, RecordIsReadBack, AbbreviatedIsReadBack, IsSound, is_sound, is_sound_tail}

pub fixed_reads : (w n : ℕ) → n < 2 ^ w → ReadsAs (fixed w) (bits_of w n) n
unfolding fixed
fixed_reads w n h at rest = rw (fixed_back w n rest h, drop_at (bits_of w n) rest (length (bits_of w n)) refl) refl

pub vbr_reads : (w n : ℕ) → 2 ≤ w → n < 2 ^ 64 → ReadsAs (vbr w) (vbr_bits 64 w n) n
unfolding vbr
vbr_reads w n low h at rest = rw (vbr_back 64 w 0 n rest low (omega arith) (omega arith) (omega arith), drop_at (vbr_bits 64 w n) rest (length (vbr_bits 64 w n)) refl) refl

-- one reading behind another
pub then_reads : {A B : Type 0} (f : Cursor → Found A) (g : A → Cursor → Found B) (xs ys : List Bool) (a : A) (b : B) → ReadsAs f xs a → ReadsAs (g a) ys b → ReadsAs (λ c. f c >>= g) (xs ++ ys) b
then_reads f g xs ys a b p q at rest =
    let place : at + length xs + length ys ≡ at + length (xs ++ ys) = omega (arith, length-append xs ys) in
    rw (append_assoc, p at (ys ++ rest), q (at + length xs) rest, place) refl

pub then_done : {A B : Type 0} (f : Cursor → Found A) (h : A → B) (xs : List Bool) (a : A) → ReadsAs f xs a → ReadsAs (λ c. f c >>= λ x d. Ok (h x, d)) xs (h a)
then_done f h xs a p at rest = rw (p at rest) refl

-- the 64 characters and their numbers
letter_ok : ℕ → Bool
letter_ok n = not (is_letter n) || ((slice_index letters (letter_number n) == n) && nat_lt (letter_number n) 64)

all_ok : ℕ → Bool
all_ok zero = true
all_ok (suc n) = letter_ok n && all_ok n

both : (a b : Bool) → a && b ≡ true → (a ≡ true) × (b ≡ true)
both true b h = (refl, h)
both false b h = absurd (cc)

ok_below : (k n : ℕ) → all_ok k ≡ true → n < k → letter_ok n ≡ true
unfolding all_ok
ok_below zero n h less = absurd (omega arith)
ok_below (suc k) n h less = elim (cases_lt n k) [
  | inl below ↦ ok_below k n (both _ _ h).1 below
  | inr here ↦ let same : k ≡ n = omega arith in rw same at (both (letter_ok k) (all_ok k) h).0
]

letters_ok : all_ok 128 ≡ true
unfolding all_ok letter_ok
letters_ok = refl

letter_small : (n : ℕ) → is_letter n ≡ true → n < 128
letter_small n h = elim (cases_lt n 128) [
  | inl small ↦ small
  | inr big ↦
      let a : nat_le n 122 ≡ false = lt-leb n 122 (omega arith) in
      let b : nat_le n 90 ≡ false = lt-leb n 90 (omega arith) in
      let c : nat_le n 57 ≡ false = lt-leb n 57 (omega arith) in
      let d : (n == 46) ≡ false = ne_eqb n 46 (λ e. omega arith) in
      let e : (n == 95) ≡ false = ne_eqb n 95 (λ e. omega arith) in
      let low1 : nat_le 97 n ≡ true = le-leb 97 n (omega arith) in
      let low2 : nat_le 65 n ≡ true = le-leb 65 n (omega arith) in
      let low3 : nat_le 48 n ≡ true = le-leb 48 n (omega arith) in
      let none = rw (a, b, c, d, e, low1, low2, low3) at h in
      absurd (cc)
]

ok_is : (n : ℕ) → is_letter n ≡ true → letter_ok n ≡ true → (slice_index letters (letter_number n) ≡ n) × (letter_number n < 64)
unfolding letter_ok
ok_is n h ok =
    let two = both (slice_index letters (letter_number n) == n) (nat_lt (letter_number n) 64) (rw h at ok) in
    (eqb-true _ _ two.0, ltb-true _ _ two.1)

letter_back : (n : ℕ) → is_letter n ≡ true → (slice_index letters (letter_number n) ≡ n) × (letter_number n < 64)
letter_back n h = ok_is n h (ok_below 128 n letters_ok (letter_small n h))

-- values

pub value_reads : (s : ValueSpelling) (n : ℕ) → is_sound s ≡ true → fits s n ≡ true → n < 2 ^ 64 → ReadsAs (value_by s) (value_bits s n) n
unfolding value_by value_bits
value_reads (Known v) n sound fit small at rest = let same : n ≡ v = eqb-true n v fit in let place : at ≡ at + 0 = omega arith in rw (same, ← place) refl
value_reads (Field w) n sound fit small at rest = fixed_reads w n (ltb-true n (2 ^ w) fit) at rest
value_reads (Chunks w) n sound fit small at rest = vbr_reads w n (leb-true 2 w sound) small at rest
value_reads Letter n sound fit small at rest =
    rw (fixed_reads 6 (letter_number n) (letter_back n fit).1 at rest, (letter_back n fit).0) refl

code_reads : (s : ValueSpelling) (n : ℕ) → is_sound s ≡ true → fits s n ≡ true → n < ID_LIMIT → ReadsAs (code_by s) (value_bits s n) n
unfolding code_by
code_reads s n sound fit small at rest = rw (value_reads s n sound fit (omega arith) at rest, lt-leb ID_LIMIT n small) refl

operand_reads : (s : ValueSpelling) (n : ℕ) (front : List ℕ) → is_sound s ≡ true → fits s n ≡ true → n < 2 ^ 64 → ReadsAs (operand false front s) (value_bits s n) (front ++ n ∷ [])
unfolding operand
operand_reads s n front sound fit small at rest = rw (value_reads s n sound fit small at rest) refl

elements_reads : (s : ValueSpelling) (ns front : List ℕ) → is_sound s ≡ true → all_fit s ns ≡ true → AllByRecursion (λ n. n < 2 ^ 64) ns → ReadsAs (elements false s (length ns) front) (all_bits s ns) (front ++ ns)
unfolding elements
elements_reads s [] front sound fit small at rest = let place : at + 0 ≡ at = omega arith in rw (append-nil, place) refl
elements_reads s (n ∷ ns) front sound fit small at rest =
    let fits_here = both (fits s n) (all_fit s ns) fit in
    let place : at + length (value_bits s n) + length (all_bits s ns) ≡ at + length (value_bits s n ++ all_bits s ns) = omega (arith, length-append (value_bits s n) (all_bits s ns)) in
    let more = elements_reads s ns (front ++ n ∷ []) sound fits_here.1 small.1 (at + length (value_bits s n)) rest in
    rw (append_assoc, operand_reads s n front sound fits_here.0 small.0 at (all_bits s ns ++ rest), more, place, append_assoc) refl

counted_reads : (s : ValueSpelling) (ns front : List ℕ) → is_sound s ≡ true → all_fit s ns ≡ true → AreOperands ns → ReadsAs (counted false s front) (chunks 6 (length ns) ++ all_bits s ns) (front ++ ns)
unfolding counted
counted_reads s ns front sound fit operands = then_reads (vbr 6) (λ count d. elements false s count front d) _ _ (length ns) (front ++ ns) (vbr_reads 6 (length ns) (omega arith) operands.few) (elements_reads s ns front sound fit operands.small)

any_fit : (w : ℕ) (ns : List ℕ) → all_fit (Chunks w) ns ≡ true
any_fit w [] = refl
any_fit w (n ∷ ns) = any_fit w ns

code_reads_chunks : (code : ℕ) → code < ID_LIMIT → ReadsAs (code_by (Chunks 6)) (chunks 6 code) code
unfolding value_bits
code_reads_chunks code small = code_reads (Chunks 6) code refl refl small

unabbreviated_reads : (code : ℕ) (ns : List ℕ) → code < ID_LIMIT → AreOperands ns → ReadsAs (unabbreviated false) (record_bits code ns) (record { code = code; operands = ns; blob = [] })
unfolding unabbreviated record_bits
unabbreviated_reads code ns small operands at rest =
    let place : at + length (chunks 6 code) + length (chunks 6 (length ns) ++ all_bits (Chunks 6) ns) ≡ at + length (chunks 6 code ++ chunks 6 (length ns) ++ all_bits (Chunks 6) ns)
    = omega (arith, length-append (chunks 6 code) (chunks 6 (length ns)), length-append (chunks 6 code ++ chunks 6 (length ns)) (all_bits (Chunks 6) ns), length-append (chunks 6 (length ns)) (all_bits (Chunks 6) ns)) in
    let whole : (chunks 6 code ++ chunks 6 (length ns) ++ all_bits (Chunks 6) ns) ++ rest ≡ chunks 6 code ++ ((chunks 6 (length ns) ++ all_bits (Chunks 6) ns) ++ rest) = simp append_assoc in
    rw (whole, code_reads_chunks code small at ((chunks 6 (length ns) ++ all_bits (Chunks 6) ns) ++ rest), counted_reads (Chunks 6) ns [] refl (any_fit 6 ns) operands (at + length (chunks 6 code)) rest, place) refl

-- entries

pub item_inside : (s : Scope) (c d : Cursor) (id : ℕ) → is_top s ≡ false → fixed s.block.width c ≡ Ok (id, d) → item s c ≡ inside id c.at s d
unfolding item
item_inside s c d id top h = rw (top, h) refl

inside_record : (s : Scope) (bit : ℕ) (c d : Cursor) (r : ReadRecord) → is_blockinfo s ≡ false → unabbreviated false c ≡ Ok (r, d)
    → inside 3 bit s c ≡ Ok (record { entry = Some (Record r.code); scope = s; operands = r.operands; blob = r.blob }, d)
unfolding inside record_by recorded
inside_record s bit c d r plain h = rw (plain, h) refl

id_small : (w : ℕ) → 2 ≤ w → 3 < 2 ^ w
id_small w h = let least : 2 ^ 2 ≤ 2 ^ w = pow_mono h in omega arith

pub record_back : RecordIsReadBack
record_back s code ns block small operands at rest =
    let w = s.block.width in
    let bits = record_bits code ns in
    let place : at + length (bits_of w 3) + length bits ≡ at + length (bits_of w 3 ++ bits) = omega (arith, length-append (bits_of w 3) bits) in
    let id = fixed_reads w 3 (id_small w block.wide) at (bits ++ rest) in
    let values = unabbreviated_reads code ns small operands (at + length (bits_of w 3)) rest in
    rw (append_assoc, item_inside s (record { at = at; rest = bits_of w 3 ++ (bits ++ rest) }) _ 3 block.inside id, inside_record s at _ _ _ block.plain values, place) refl

-- what holds of each of a list holds of each in a front of it, and behind the front
pub all_take : {X : Type 0} (P : X → Type 0) (k : ℕ) (xs : List X) → AllByRecursion P xs → AllByRecursion P (take k xs)
all_take P zero xs h = tt
all_take P (suc k) [] h = tt
all_take P (suc k) (x ∷ xs) h = (h.0, all_take P k xs h.1)

pub all_drop : {X : Type 0} (P : X → Type 0) (k : ℕ) (xs : List X) → AllByRecursion P xs → AllByRecursion P (drop k xs)
all_drop P zero xs h = h
all_drop P (suc k) [] h = tt
all_drop P (suc k) (x ∷ xs) h = all_drop P k xs h.1

-- a record by an abbreviation

each_reads : (ss : List ValueSpelling) (ns front : List ℕ) → list_all is_sound ss ≡ true → each_fit ss ns ≡ true → AllByRecursion (λ n. n < 2 ^ 64) ns → ReadsAs (each false ss front) (each_bits ss ns) (front ++ ns)
unfolding each each_fit each_bits
each_reads [] [] front sound fit small at rest = let place : at + 0 ≡ at = omega arith in rw (append-nil, place) refl
each_reads [] (n ∷ ns) front sound fit small at rest = absurd (cc)
each_reads (s ∷ ss) [] front sound fit small at rest = absurd (cc)
each_reads (s ∷ ss) (n ∷ ns) front sound fit small at rest =
    let sound_here = both (is_sound s) (list_all is_sound ss) sound in
    let fits_here = both (fits s n) (each_fit ss ns) fit in
    let place : at + length (value_bits s n) + length (each_bits ss ns) ≡ at + length (value_bits s n ++ each_bits ss ns) = omega (arith, length-append (value_bits s n) (each_bits ss ns)) in
    let more = each_reads ss ns (front ++ n ∷ []) sound_here.1 fits_here.1 small.1 (at + length (value_bits s n)) rest in
    rw (append_assoc, operand_reads s n front sound_here.0 fits_here.0 small.0 at (each_bits ss ns ++ rest), more, place, append_assoc) refl

tail_bits : Tail → List ℕ → List Bool
tail_bits NoTail ns = []
tail_bits (Elements s) ns = chunks 6 (length ns) ++ all_bits s ns
tail_bits Bytes ns = []

with_tail_is : (t : Tail) (ns : List ℕ) (bits : List Bool) → is_sound_tail t ≡ true → with_tail t ns bits ≡ bits ++ tail_bits t ns
unfolding with_tail tail_bits
with_tail_is NoTail ns bits sound = sym (append-nil bits)
with_tail_is (Elements s) ns bits sound = append_assoc bits (chunks 6 (length ns)) (all_bits s ns)
with_tail_is Bytes ns bits sound = absurd (cc)

pub no_items : (ns : List ℕ) → length ns ≡ 0 → ns ≡ []
no_items [] h = refl
no_items (n ∷ ns) h = absurd (omega arith)

tail_reads : (t : Tail) (ns front : List ℕ) → is_sound_tail t ≡ true → tail_fits t ns ≡ true → AreOperands ns → ReadsAs (tail_by false t front) (tail_bits t ns) (front ++ ns, [])
unfolding tail_by tail_bits tail_fits
tail_reads NoTail ns front sound fit operands at rest =
    let none : ns ≡ [] = no_items ns (eqb-true (length ns) 0 fit) in
    let place : at + 0 ≡ at = omega arith in
    rw (none, append-nil, place) refl
tail_reads (Elements s) ns front sound fit operands at rest = rw (counted_reads s ns front sound fit operands at rest) refl
tail_reads Bytes ns front sound fit operands at rest = absurd (cc)

abbreviated_reads : (t : AdmittedAbbreviation) (code : ℕ) (ns : List ℕ) → IsSound t → record_fits (Some t) code ns ≡ true → code < ID_LIMIT → AreOperands ns
    → ReadsAs (abbreviated false t) (value_bits t.code code ++ (each_bits t.operands (take (length t.operands) ns) ++ tail_bits t.tail (drop (length t.operands) ns))) (record { code = code; operands = ns; blob = [] })
unfolding abbreviated record_fits
abbreviated_reads t code ns sound fit small operands at rest =
    let k = length t.operands in
    let last = both (fits t.code code && nat_le k (length ns) && each_fit t.operands (take k ns)) (tail_fits t.tail (drop k ns)) fit in
    let middle = both (fits t.code code && nat_le k (length ns)) (each_fit t.operands (take k ns)) last.0 in
    let first = both (fits t.code code) (nat_le k (length ns)) middle.0 in
    let behind : AreOperands (drop k ns) = record { small = all_drop _ k ns operands.small; few = omega (arith, operands.few, length-drop k ns) } in
    let code_bits = value_bits t.code code in
    let front_bits = each_bits t.operands (take k ns) in
    let rest_bits = tail_bits t.tail (drop k ns) in
    let one = code_reads t.code code sound.code first.0 small at (front_bits ++ (rest_bits ++ rest)) in
    let two = each_reads t.operands (take k ns) [] sound.operands middle.1 (all_take _ k ns operands.small) (at + length code_bits) (rest_bits ++ rest) in
    let three = tail_reads t.tail (drop k ns) (take k ns) sound.tail last.1 behind (at + length code_bits + length front_bits) rest in
    let place : at + length code_bits + length front_bits + length rest_bits ≡ at + length (code_bits ++ (front_bits ++ rest_bits)) = omega (arith, length-append code_bits (front_bits ++ rest_bits), length-append front_bits rest_bits) in
    let whole : (code_bits ++ (front_bits ++ rest_bits)) ++ rest ≡ code_bits ++ (front_bits ++ (rest_bits ++ rest)) = simp append_assoc in
    rw (whole, one, two, three, take-append-drop k ns, place) refl

inside_abbreviated : (s : Scope) (id bit : ℕ) (t : AdmittedAbbreviation) (c d : Cursor) (r : ReadRecord) → 4 ≤ id → abbreviation_of s id ≡ Some t → is_blockinfo s ≡ false → abbreviated false t c ≡ Ok (r, d)
    → inside id bit s c ≡ Ok (record { entry = Some (Record r.code); scope = s; operands = r.operands; blob = r.blob }, d)
unfolding inside record_by by_abbreviation recorded
inside_abbreviated s id bit t c d r low there plain h =
    let a : (id == 0) ≡ false = ne_eqb id 0 (λ e. omega arith) in
    let b : (id == 1) ≡ false = ne_eqb id 1 (λ e. omega arith) in
    let c' : (id == 2) ≡ false = ne_eqb id 2 (λ e. omega arith) in
    let d' : (id == 3) ≡ false = ne_eqb id 3 (λ e. omega arith) in
    rw (a, b, c', d', there, plain, h) refl

written_is : (t : AdmittedAbbreviation) (code : ℕ) (ns : List ℕ) (bits : List Bool) → IsSound t → with_record (Some t) code ns bits ≡ bits ++ (value_bits t.code code ++ (each_bits t.operands (take (length t.operands) ns) ++ tail_bits t.tail (drop (length t.operands) ns)))
unfolding with_record
written_is t code ns bits sound = rw (with_tail_is t.tail (drop (length t.operands) ns) _ sound.tail) (simp append_assoc)

pub abbreviated_back : AbbreviatedIsReadBack
abbreviated_back s id t code ns block low small_id there sound fit small operands at rest =
    let w = s.block.width in
    let bits = value_bits t.code code ++ (each_bits t.operands (take (length t.operands) ns) ++ tail_bits t.tail (drop (length t.operands) ns)) in
    let place : at + length (bits_of w id) + length bits ≡ at + length (bits_of w id ++ bits) = omega (arith, length-append (bits_of w id) bits) in
    let id_read = fixed_reads w id small_id at (bits ++ rest) in
    let values = abbreviated_reads t code ns sound fit small operands (at + length (bits_of w id)) rest in
    rw (written_is t code ns (bits_of w id) sound, append_assoc, item_inside s (record { at = at; rest = bits_of w id ++ (bits ++ rest) }) _ id block.inside id_read, inside_abbreviated s id at t _ _ _ low there block.plain values, place) refl
