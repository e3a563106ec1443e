-- What is written only adds bits: at least one for each record, and one for each operand.
use Rattle.std.proofs.Common.{◌≡◌, ℕ, zero, suc, ◌+◌, ◌-◌, ◌/◌, ◌%◌, ◌^◌, ◌<◌, ◌≤◌, Bool, true, false, nat_lt, List, [], ◌∷◌, ◌++◌, length, take, drop, Option, Some, None, refl, ap, ◌∙◌, arith, inl, inr}
use Rattle.std.specs.List.{slice_index_or}
use Rattle.std.proofs.lemmas.Bool.{cases_Bool}
use Rattle.std.proofs.lemmas.List.{length-append, get_or_at, take_at}
use Rattle.bit_stream.specs.Bits.Bits.{bits_of}
use Rattle.bit_stream.specs.Bits.Writing.{vbr_bits, pad_bits}
use Rattle.bit_stream.proofs.OnBits.BitsLaws.{length-bits_of}
use Rattle.bit_stream.specs.declared.abbreviation.ValueSpelling.TheVariants.{Chunks, Field}
use Rattle.bit_stream.specs.declared.abbreviation.Tail.{Tail}
use Rattle.bit_stream.specs.declared.abbreviation.Tail.TheVariants.{NoTail, Elements, Bytes}
use Rattle.bit_stream.specs.Abbreviation.{AdmittedAbbreviation}
use Rattle.bit_stream.specs.Scope.{abbreviation_of}
use Rattle.bit_stream.specs.Spelling.{chunks, all_bits, value_bits, each_bits, record_bits, definition_bits, aligned, with_tail, with_record}
use Rattle.bit_stream.specs.declared.abbreviation.AbbrevOp.{AbbrevOp}
use Rattle.bit_stream.specs.Writer.{Writer, enter, ended, end_block, define, put_record, abbreviated, id_bits}
use Rattle.bit_tree.specs.Written.{Written, no_more, a_block, a_definition, a_record, a_short_record, written}

-- how many bits these have together
unfoldable pub total : List (List Bool) → ℕ
total [] = 0
total (x ∷ xs) = length x + total xs

total_more : (xs : List (List Bool)) (x : List Bool) → total (xs ++ x ∷ []) ≡ total xs + length x
unfolding total
total_more [] x = omega arith
total_more (y ∷ xs) x = let others = total_more xs x in omega (arith, others)

-- the bits of a writer: of the innermost block and of those around it
abbrev pub size : Writer → ℕ
size w = length w.bits + total w.around

longer : (xs ys : List Bool) → length xs ≤ length (xs ++ ys)
longer xs ys = omega (arith, length-append xs ys)

aligned_longer : (bits : List Bool) → length bits ≤ length (aligned bits)
aligned_longer bits = longer bits (pad_bits (length bits))

-- ---- blocks

-- a block that is ended leaves the blocks around it
around_ended : (w : Writer) (id width : ℕ) (x : Writer) → x.around ≡ (enter w id width).around → (end_block x).around ≡ w.around
around_ended w id width x same =
    let outer = aligned (w.bits ++ id_bits w 1 ++ chunks 8 id ++ chunks 4 width) in
    let count : length x.around - 1 ≡ length w.around = omega (arith, ap length same, length-append w.around (outer ∷ [])) in
    rw (count, same) (take_at w.around (outer ∷ []) (length w.around) refl)

-- what is written changes no block around
pub around_kept : (more : Written) (w : Writer) → (written w more).around ≡ w.around
unfolding written
around_kept no_more w = refl
around_kept (a_block id width inside behind) w =
    around_kept behind (end_block (written (enter w id width) inside)) ∙ around_ended w id width (written (enter w id width) inside) (around_kept inside (enter w id width))
around_kept (a_definition ops behind) w = around_kept behind (define w ops)
around_kept (a_record code ns behind) w = around_kept behind (put_record w code ns)
around_kept (a_short_record id code ns behind) w = around_kept behind (abbreviated w id code ns)

-- the bits up to a block's count of words
abbrev outer_bits : Writer → ℕ → ℕ → List Bool
outer_bits w id width = aligned (w.bits ++ id_bits w 1 ++ chunks 8 id ++ chunks 4 width)

enter_size : (w : Writer) (id width : ℕ) → size (enter w id width) ≡ total w.around + length (outer_bits w id width)
enter_size w id width = let all = total_more w.around (outer_bits w id width) in omega (arith, all)

outer_longer : (w : Writer) (id width : ℕ) → length w.bits ≤ length (outer_bits w id width)
outer_longer w id width =
    let a = longer w.bits (id_bits w 1) in
    let b = longer (w.bits ++ id_bits w 1) (chunks 8 id) in
    let c = longer (w.bits ++ id_bits w 1 ++ chunks 8 id) (chunks 4 width) in
    let d = aligned_longer (w.bits ++ id_bits w 1 ++ chunks 8 id ++ chunks 4 width) in
    omega (arith, a, b, c, d)

pub enter_grows : (w : Writer) (id width : ℕ) → size w ≤ size (enter w id width)
enter_grows w id width = let a = outer_longer w id width in let b = enter_size w id width in omega (arith, a, b)

-- behind a block stand the bits in front of it, 32 bits, and its own
end_bits : (w : Writer) (id width : ℕ) (x : Writer) → x.around ≡ (enter w id width).around → length (end_block x).bits ≡ length (outer_bits w id width) + 32 + length (ended x)
end_bits w id width x same =
    let outer = outer_bits w id width in
    let count : length x.around - 1 ≡ length w.around = omega (arith, ap length same, length-append w.around (outer ∷ [])) in
    let first : slice_index_or x.around (length x.around - 1) [] ≡ outer = rw (count, same) (get_or_at w.around outer [] [] (length w.around) refl) in
    let words = bits_of 32 (length (ended x) / 32 % 2 ^ 32) in
    let whole : length (outer ++ words ++ ended x) ≡ length outer + 32 + length (ended x) = omega (arith, length-append (outer ++ words) (ended x), length-append outer words, length-bits_of 32 (length (ended x) / 32 % 2 ^ 32)) in
    ap (λ (l : List Bool). length (l ++ words ++ ended x)) first ∙ whole

end_size : (w : Writer) (id width : ℕ) (x : Writer) → x.around ≡ (enter w id width).around → size (end_block x) ≡ length (outer_bits w id width) + 32 + length (ended x) + total w.around
end_size w id width x same =
    let a = end_bits w id width x same in
    let b = ap total (around_ended w id width x same) in
    omega (arith, a, b)

ended_longer : (x : Writer) → length x.bits ≤ length (ended x)
ended_longer x = let a = longer x.bits (id_bits x 0) in let b = aligned_longer (x.bits ++ id_bits x 0) in omega (arith, a, b)

pub end_grows : (w : Writer) (id width : ℕ) (x : Writer) → x.around ≡ (enter w id width).around → (size x ≤ size (end_block x)) × (length (ended x) ≤ size (end_block x))
end_grows w id width x same =
    let a = end_size w id width x same in
    let b = ap total same in
    let c = total_more w.around (outer_bits w id width) in
    let d = ended_longer x in
    (omega (arith, a, b, c, d), omega (arith, a))

-- ---- records

some_bits : (more w n : ℕ) → 0 < length (vbr_bits more w n)
unfolding vbr_bits
some_bits zero w n = omega (arith, length-append (bits_of (w - 1) n) (false ∷ []))
some_bits (suc more) w n = elim (cases_Bool (nat_lt n (2 ^ (w - 1)))) [
  | inl last ↦ rw last (omega (arith, length-append (bits_of (w - 1) n) (false ∷ [])))
  | inr further ↦ rw further (omega (arith, length-append (bits_of (w - 1) n) (true ∷ vbr_bits more w (n / 2 ^ (w - 1)))))
]

each_some : (ns : List ℕ) → length ns ≤ length (all_bits (Chunks 6) ns)
unfolding value_bits
each_some [] = omega arith
each_some (n ∷ ns) =
    let one = some_bits 64 6 n in
    let others = each_some ns in
    omega (arith, one, others, length-append (vbr_bits 64 6 n) (all_bits (Chunks 6) ns))

record_counts : (code : ℕ) (ns : List ℕ) → length ns < length (record_bits code ns)
unfolding record_bits
record_counts code ns =
    let code_some = some_bits 64 6 code in
    let a = each_some ns in
    omega (arith, code_some, a, length-append (chunks 6 code ++ chunks 6 (length ns)) (all_bits (Chunks 6) ns), length-append (chunks 6 code) (chunks 6 (length ns)))

-- a record has a bit for itself and one for each operand
pub put_grows : (w : Writer) (code : ℕ) (ns : List ℕ) → size w + length ns < size (put_record w code ns)
put_grows w code ns =
    let a = record_counts code ns in
    omega (arith, a, length-append (w.bits ++ id_bits w 3) (record_bits code ns), length-append w.bits (id_bits w 3))

pub define_grows : (w : Writer) (ops : List AbbrevOp) → size w ≤ size (define w ops)
define_grows w ops = omega (arith, length-append (w.bits ++ id_bits w 2) (definition_bits ops), length-append w.bits (id_bits w 2))

tail_longer : (t : Tail) (ns : List ℕ) (bits : List Bool) → length bits ≤ length (with_tail t ns bits)
unfolding with_tail
tail_longer NoTail ns bits = omega arith
tail_longer (Elements s) ns bits = omega (arith, length-append (bits ++ chunks 6 (length ns)) (all_bits s ns), length-append bits (chunks 6 (length ns)))
tail_longer Bytes ns bits =
    let a = longer bits (chunks 6 (length ns)) in
    let b = aligned_longer (bits ++ chunks 6 (length ns)) in
    let inner = aligned (bits ++ chunks 6 (length ns)) in
    let c = longer inner (all_bits (Field 8) ns) in
    let d = aligned_longer (inner ++ all_bits (Field 8) ns) in
    omega (arith, a, b, c, d)

record_longer : (t : Option AdmittedAbbreviation) (code : ℕ) (ns : List ℕ) (bits : List Bool) → length bits ≤ length (with_record t code ns bits)
unfolding with_record
record_longer None code ns bits = omega arith
record_longer (Some t) code ns bits =
    let front = bits ++ value_bits t.code code ++ each_bits t.operands (take (length t.operands) ns) in
    let a = tail_longer t.tail (drop (length t.operands) ns) front in
    let b = longer bits (value_bits t.code code) in
    let c = longer (bits ++ value_bits t.code code) (each_bits t.operands (take (length t.operands) ns)) in
    omega (arith, a, b, c)

pub abbreviated_grows : (w : Writer) (id code : ℕ) (ns : List ℕ) → size w ≤ size (abbreviated w id code ns)
abbreviated_grows w id code ns =
    let a = record_longer (abbreviation_of w.scope id) code ns (w.bits ++ id_bits w id) in
    let b = longer w.bits (id_bits w id) in
    omega (arith, a, b)

pub grows : (all : Written) (w : Writer) → size w ≤ size (written w all)
unfolding written
grows no_more w = omega arith
grows (a_block id width inside behind) w =
    let x = written (enter w id width) inside in
    let a = enter_grows w id width in
    let b = grows inside (enter w id width) in
    let c = (end_grows w id width x (around_kept inside (enter w id width))).0 in
    let d = grows behind (end_block x) in
    omega (arith, a, b, c, d)
grows (a_definition ops behind) w = let a = define_grows w ops in let b = grows behind (define w ops) in omega (arith, a, b)
grows (a_record code ns behind) w = let a = put_grows w code ns in let b = grows behind (put_record w code ns) in omega (arith, a, b)
grows (a_short_record id code ns behind) w = let a = abbreviated_grows w id code ns in let b = grows behind (abbreviated w id code ns) in omega (arith, a, b)
