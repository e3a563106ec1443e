-- The values of a record are read as they were written.
use Rattle.std.proofs.Common.{◌≡◌, ℕ, zero, suc, ◌+◌, ◌<◌, ◌^◌, ◌==◌, ◌&&◌, Bool, true, false, List, [], ◌∷◌, ◌++◌, length, take, drop, Some, Ok, refl, sym, ◌∙◌, arith, append_assoc, length-append, length-drop}
use Rattle.std.specs.Prelude.{nat_le}
use Rattle.std.specs.List.{AllByRecursion, list_all}
use Rattle.std.proofs.lemmas.List.{append-nil, take-append-drop}
use Rattle.std.proofs.lemmas.Bool.{eqb-true, lt-leb, ne_eqb, and_parts}
use Rattle.bit_stream.specs.Bits.Cursor.{◌>>=◌}
use Rattle.bit_stream.specs.Bits.Reading.{vbr}
use Rattle.bit_stream.specs.declared.abbreviation.ValueSpelling.{ValueSpelling}
use Rattle.bit_stream.specs.declared.abbreviation.ValueSpelling.TheVariants.{Field, Chunks}
use Rattle.bit_stream.specs.declared.abbreviation.Tail.{Tail}
use Rattle.bit_stream.specs.declared.abbreviation.Tail.TheVariants.{NoTail, Elements, Bytes}
use Rattle.bit_stream.specs.Abbreviation.{AdmittedAbbreviation}
use Rattle.bit_stream.specs.Record.{code_by, operand, elements, each, counted, tail_by, names_block, ReadRecord, unabbreviated, abbreviated}
use Rattle.bit_stream.specs.Spelling.{chunks, fits, value_bits, all_fit, all_bits, record_bits, each_fit, each_bits, tail_fits, with_tail, record_fits, with_record}
use Rattle.bit_stream.specs.Law.{ReadsAs, AreOperands, is_sound}
use Rattle.bit_stream.proofs.ReadBack.{vbr_reads, value_reads, then_reads, all_take, all_drop, no_items}
use Rattle.bit_stream.specs.Bits.Writing.{pad_bits}
use Rattle.bit_stream.proofs.Spelled.{any_chunks}
use Rattle.bit_tree.specs.Written.{front_of, back_of, operands_by, blob_by}
use Rattle.bit_tree.proofs.Places.{ReadsFrom, anywhere, then_from, done_from, blob_bits, blob_reads}

-- chunks have at least two bits
abbrev pub sound_tail : Tail → Bool
sound_tail NoTail = true
sound_tail (Elements s) = is_sound s
sound_tail Bytes = true

pub record Sound (t : AdmittedAbbreviation) : Type 0 where
  pub code : is_sound t.code ≡ true
  pub operands : list_all is_sound t.operands ≡ true
  pub tail : sound_tail t.tail ≡ true

-- the number would name a block, and is too great for that
abbrev pub misnames : Bool → List ℕ → ℕ → Bool
misnames b front n = b && (length front == 0) && nat_le (2 ^ 32) n

abbrev pub Fine : Bool → List ℕ → List ℕ → Type 0
Fine b front [] = Unit {0}
Fine b front (n ∷ ns) = misnames b front n ≡ false

not_first : (b : Bool) (front : List ℕ) (n : ℕ) → 0 < length front → misnames b front n ≡ false
not_first true front n some = rw (ne_eqb (length front) 0 (λ e. omega arith)) refl
not_first false front n some = refl

fine_later : (b : Bool) (front ns : List ℕ) → 0 < length front → Fine b front ns
fine_later b front [] some = tt
fine_later b front (n ∷ ns) some = not_first b front n some

one_more : (front : List ℕ) (n : ℕ) → 0 < length (front ++ n ∷ [])
one_more front n = omega (arith, length-append front (n ∷ []))

fine_take : (b : Bool) (k : ℕ) (ns : List ℕ) → Fine b [] ns → Fine b [] (take k ns)
fine_take b zero ns h = tt
fine_take b (suc k) [] h = tt
fine_take b (suc k) (n ∷ ns) h = h

fine_drop : (b : Bool) (k : ℕ) (ns : List ℕ) → Fine b [] ns → Fine b (take k ns) (drop k ns)
fine_drop b zero ns h = h
fine_drop b (suc k) [] h = tt
fine_drop b (suc k) (n ∷ ns) h = fine_later b (n ∷ take k ns) (drop k ns) (omega arith)

pub code_reads : (s : ValueSpelling) (n : ℕ) → is_sound s ≡ true → fits s n ≡ true → n < 2 ^ 32 → ReadsAs (code_by s) (value_bits s n) n
unfolding code_by
code_reads s n sound fit small at rest = rw (value_reads s n sound fit (omega arith) at rest, lt-leb (2 ^ 32) n small) refl

operand_reads : (b : Bool) (s : ValueSpelling) (n : ℕ) (front : List ℕ) → is_sound s ≡ true → fits s n ≡ true → n < 2 ^ 64 → misnames b front n ≡ false → ReadsAs (operand b front s) (value_bits s n) (front ++ n ∷ [])
unfolding operand
operand_reads b s n front sound fit small fine at rest = rw (value_reads s n sound fit small at rest, fine) refl

elements_reads : (b : Bool) (s : ValueSpelling) (ns front : List ℕ) → is_sound s ≡ true → all_fit s ns ≡ true → AllByRecursion (λ n. n < 2 ^ 64) ns → Fine b front ns → ReadsAs (elements b s (length ns) front) (all_bits s ns) (front ++ ns)
unfolding elements
elements_reads b s [] front sound fit small fine at rest = let place : at + 0 ≡ at = omega arith in rw (append-nil, place) refl
elements_reads b s (n ∷ ns) front sound fit small fine at rest =
    let here = and_parts (fits s n) (all_fit s ns) fit in
    let place : at + length (value_bits s n) + length (all_bits s ns) ≡ at + length (value_bits s n ++ all_bits s ns) = omega (arith, length-append (value_bits s n) (all_bits s ns)) in
    let more = elements_reads b s ns (front ++ n ∷ []) sound here.1 small.1 (fine_later b _ ns (one_more front n)) (at + length (value_bits s n)) rest in
    rw (append_assoc, operand_reads b s n front sound here.0 small.0 fine at (all_bits s ns ++ rest), more, place, append_assoc) refl

each_reads : (b : Bool) (ss : List ValueSpelling) (ns front : List ℕ) → list_all is_sound ss ≡ true → each_fit ss ns ≡ true → AllByRecursion (λ n. n < 2 ^ 64) ns → Fine b front ns → ReadsAs (each b ss front) (each_bits ss ns) (front ++ ns)
unfolding each each_fit each_bits
each_reads b [] [] front sound fit small fine at rest = let place : at + 0 ≡ at = omega arith in rw (append-nil, place) refl
each_reads b [] (n ∷ ns) front sound fit small fine at rest = absurd (cc)
each_reads b (s ∷ ss) [] front sound fit small fine at rest = absurd (cc)
each_reads b (s ∷ ss) (n ∷ ns) front sound fit small fine at rest =
    let sounds = and_parts (is_sound s) (list_all is_sound ss) sound in
    let here = and_parts (fits s n) (each_fit ss ns) fit in
    let place : at + length (value_bits s n) + length (each_bits ss ns) ≡ at + length (value_bits s n ++ each_bits ss ns) = omega (arith, length-append (value_bits s n) (each_bits ss ns)) in
    let more = each_reads b ss ns (front ++ n ∷ []) sounds.1 here.1 small.1 (fine_later b _ ns (one_more front n)) (at + length (value_bits s n)) rest in
    rw (append_assoc, operand_reads b s n front sounds.0 here.0 small.0 fine at (each_bits ss ns ++ rest), more, place, append_assoc) refl

counted_reads : (b : Bool) (s : ValueSpelling) (ns front : List ℕ) → is_sound s ≡ true → all_fit s ns ≡ true → AreOperands ns → Fine b front ns → ReadsAs (counted b s front) (chunks 6 (length ns) ++ all_bits s ns) (front ++ ns)
unfolding counted
counted_reads b s ns front sound fit operands fine = then_reads (vbr 6) (λ count d. elements b s count front d) _ _ (length ns) (front ++ ns) (vbr_reads 6 (length ns) (omega arith) operands.few) (elements_reads b s ns front sound fit operands.small fine)

pub unabbreviated_reads : (b : Bool) (code : ℕ) (ns : List ℕ) → code < 2 ^ 32 → AreOperands ns → Fine (names_block b code) [] ns → ReadsAs (unabbreviated b) (record_bits code ns) (record { code = code; operands = ns; blob = [] })
unfolding unabbreviated record_bits value_bits
unabbreviated_reads b code ns small operands fine =
    let all = chunks 6 (length ns) ++ all_bits (Chunks 6) ns in
    let way = then_reads (code_by (Chunks 6)) (λ code d. counted (names_block b code) (Chunks 6) [] d >>= λ all e. Ok (record { code = code; operands = all; blob = [] }, e)) (chunks 6 code) all code (record { code = code; operands = ns; blob = [] })
    (code_reads (Chunks 6) code refl refl small)
    (λ at rest. rw (counted_reads (names_block b code) (Chunks 6) ns [] refl (any_chunks 6 ns) operands fine at rest) refl) in
    let whole : (chunks 6 code ++ chunks 6 (length ns)) ++ all_bits (Chunks 6) ns ≡ chunks 6 code ++ all = append_assoc (chunks 6 code) (chunks 6 (length ns)) (all_bits (Chunks 6) ns) in
    rw whole way

-- what follows the values that are spelled one by one, from bit n on
abbrev pub tail_bits : ℕ → Tail → List ℕ → List Bool
tail_bits n NoTail ns = []
tail_bits n (Elements s) ns = chunks 6 (length ns) ++ all_bits s ns
tail_bits n Bytes ns = blob_bits n ns

abbrev ends_with : Tail → List ℕ → List ℕ → List ℕ × List ℕ
ends_with NoTail front ns = (front ++ ns, [])
ends_with (Elements s) front ns = (front ++ ns, [])
ends_with Bytes front ns = (front, ns)

-- only the elements of an array are operands
abbrev fine_tail : Bool → Tail → List ℕ → List ℕ → Type 0
fine_tail b NoTail front ns = Unit {0}
fine_tail b (Elements s) front ns = Fine b front ns
fine_tail b Bytes front ns = Unit {0}

fine_front : (b : Bool) (t : Tail) (k : ℕ) (ns : List ℕ) → Fine b [] (front_of t k ns) → Fine b [] (take k ns)
fine_front b NoTail k ns h = fine_take b k ns h
fine_front b (Elements s) k ns h = fine_take b k ns h
fine_front b Bytes k ns h = h

fine_back : (b : Bool) (t : Tail) (k : ℕ) (ns : List ℕ) → Fine b [] (front_of t k ns) → fine_tail b t (take k ns) (drop k ns)
fine_back b NoTail k ns h = tt
fine_back b (Elements s) k ns h = fine_drop b k ns h
fine_back b Bytes k ns h = tt

tail_reads : (n : ℕ) (b : Bool) (t : Tail) (ns front : List ℕ) → sound_tail t ≡ true → tail_fits t ns ≡ true → AreOperands ns → fine_tail b t front ns → ReadsFrom n (tail_by b t front) (tail_bits n t ns) (ends_with t front ns)
unfolding tail_by tail_fits
tail_reads n b NoTail ns front sound fit operands fine at rest same =
    let none : ns ≡ [] = no_items ns (eqb-true (length ns) 0 fit) in
    let place : at + 0 ≡ at = omega arith in
    rw (none, append-nil, place) refl
tail_reads n b (Elements s) ns front sound fit operands fine at rest same = rw (counted_reads b s ns front sound fit operands fine at rest) refl
tail_reads n b Bytes ns front sound fit operands fine at rest same = rw (blob_reads n ns fit operands.few at rest same) refl

-- a record by an abbreviation, behind its id
abbrev pub values_bits : ℕ → AdmittedAbbreviation → ℕ → List ℕ → List Bool
values_bits n t code ns =
    let k = length t.operands in
    let front = value_bits t.code code in
    let inside = each_bits t.operands (take k ns) in
    front ++ (inside ++ tail_bits (n + length front + length inside) t.tail (drop k ns))

with_tail_is : (t : Tail) (ns : List ℕ) (bits : List Bool) → with_tail t ns bits ≡ bits ++ tail_bits (length bits) t ns
unfolding with_tail
with_tail_is NoTail ns bits = sym (append-nil bits)
with_tail_is (Elements s) ns bits = append_assoc bits (chunks 6 (length ns)) (all_bits s ns)
with_tail_is Bytes ns bits =
    let count = chunks 6 (length ns) in
    let inside = all_bits (Field 8) ns in
    let first : length (bits ++ count) ≡ length bits + length count = length-append bits count in
    let before = pad_bits (length bits + length count) in
    let second : length (((bits ++ count) ++ before) ++ inside) ≡ length bits + length count + length before + length inside
    = omega (arith, length-append ((bits ++ count) ++ before) inside, length-append (bits ++ count) before, first) in
    rw (first, second) (simp append_assoc)

pub written_is : (t : AdmittedAbbreviation) (code : ℕ) (ns : List ℕ) (bits : List Bool) → with_record (Some t) code ns bits ≡ bits ++ values_bits (length bits) t code ns
unfolding with_record
written_is t code ns bits =
    let k = length t.operands in
    let front = value_bits t.code code in
    let inside = each_bits t.operands (take k ns) in
    let size : length ((bits ++ front) ++ inside) ≡ length bits + length front + length inside = omega (arith, length-append (bits ++ front) inside, length-append bits front) in
    rw (with_tail_is t.tail (drop k ns) ((bits ++ front) ++ inside), size) (simp append_assoc)

abbrev as_record : ℕ → List ℕ × List ℕ → ReadRecord
as_record code all = record { code = code; operands = all.0; blob = all.1 }

ends_as : (code : ℕ) (t : Tail) (k : ℕ) (ns : List ℕ) → as_record code (ends_with t (take k ns) (drop k ns)) ≡ record { code = code; operands = front_of t k ns; blob = back_of t k ns }
ends_as code NoTail k ns = rw (take-append-drop k ns) refl
ends_as code (Elements s) k ns = rw (take-append-drop k ns) refl
ends_as code Bytes k ns = refl

-- the operands and the blob of a record by an abbreviation
pub abbreviated_reads : (n : ℕ) (b : Bool) (t : AdmittedAbbreviation) (code : ℕ) (ns : List ℕ) → Sound t → record_fits (Some t) code ns ≡ true → code < 2 ^ 32 → AreOperands ns → Fine (names_block b code) [] (operands_by t ns)
    → ReadsFrom n (abbreviated b t) (values_bits n t code ns) (record { code = code; operands = operands_by t ns; blob = blob_by t ns })
unfolding abbreviated record_fits
abbreviated_reads n b t code ns sound fit small operands fine at rest same =
    let k = length t.operands in
    let names = names_block b code in
    let last = and_parts (fits t.code code && nat_le k (length ns) && each_fit t.operands (take k ns)) (tail_fits t.tail (drop k ns)) fit in
    let middle = and_parts (fits t.code code && nat_le k (length ns)) (each_fit t.operands (take k ns)) last.0 in
    let first = and_parts (fits t.code code) (nat_le k (length ns)) middle.0 in
    let behind : AreOperands (drop k ns) = record { small = all_drop _ k ns operands.small; few = omega (arith, operands.few, length-drop k ns) } in
    let front = value_bits t.code code in
    let inside = each_bits t.operands (take k ns) in
    let m = n + length front + length inside in
    let ending = tail_bits m t.tail (drop k ns) in
    let all = ends_with t.tail (take k ns) (drop k ns) in
    let three = done_from m (tail_by names t.tail (take k ns)) (λ x. as_record code x) ending all (tail_reads m names t.tail (drop k ns) (take k ns) sound.tail last.1 behind (fine_back names t.tail k ns fine)) in
    let two = then_from (n + length front) (each names t.operands []) (λ front e. tail_by names t.tail front e >>= λ all f. Ok (as_record code all, f)) inside ending (take k ns) (as_record code all)
    (anywhere (n + length front) (each names t.operands []) inside (take k ns) (each_reads names t.operands (take k ns) [] sound.operands middle.1 (all_take _ k ns operands.small) (fine_front names t.tail k ns fine))) three in
    let one = then_from n (code_by t.code) (λ code d. each (names_block b code) t.operands [] d >>= λ front e. tail_by (names_block b code) t.tail front e >>= λ all f. Ok (as_record code all, f)) front (inside ++ ending) code (as_record code all)
    (anywhere n (code_by t.code) front code (code_reads t.code code sound.code first.0 small)) two in
    one at rest same ∙ rw (ends_as code t.tail k ns) refl
