-- A block of bytes may be written, where the whole is small.
use Rattle.std.proofs.Common.{◌≡◌, ℕ, ◌^◌, ◌<◌, ◌≤◌, Bool, true, false, nat_lt, List, [], ◌∷◌, ◌++◌, length, Option, Some, IsSome, refl, sym, ap, ◌∙◌, subst, arith}
use Rattle.std.specs.List.{list_all, AllByRecursion}
use Rattle.std.proofs.lemmas.Bool.{and_from, false≢true, lt-ltb, le-leb}
use Rattle.std.proofs.lemmas.List.{length-append}
use Rattle.std.proofs.Math.Pow.{pow_mono}
use Rattle.bit_stream.specs.Bits.Bits.{bits_of}
use Rattle.bit_stream.proofs.OnBits.BitsLaws.{length-bits_of}
use Rattle.bit_stream.specs.Abbreviation.{AdmittedAbbreviation}
use Rattle.bit_stream.specs.declared.abbreviation.ValueSpelling.TheVariants.{Field, Chunks}
use Rattle.bit_stream.specs.declared.abbreviation.Tail.TheVariants.{Elements}
use Rattle.bit_stream.specs.Scope.{Scope, abbreviation_of}
use Rattle.bit_stream.specs.Record.{names_block}
use Rattle.bit_stream.specs.Entry.{defined, is_top, is_blockinfo}
use Rattle.bit_stream.specs.Spelling.{abbreviation_for, rest_of, record_fits, each_fit, tail_fits, value_bits, each_bits, all_bits, chunks, with_record, with_tail}
use Rattle.bit_stream.specs.Writer.{Writer, enter, end_block, define, abbreviated, id_bits, with_abbreviation}
use Rattle.bit_tree.specs.Written.{no_more, a_definition, a_short_record, MayDefine, MayAbbreviate, Allowed}
use Rattle.bit_tree.specs.Sizes.Plain.{MayBlock, of_bytes}
use Rattle.bit_tree.proofs.OnSizes.Grows.{size}
use Rattle.bit_tree.proofs.OnSizes.Kept.{left_is, entered_inside}

-- bytes behind a code
abbrev byte_abbreviation : AdmittedAbbreviation
byte_abbreviation = record { code = Chunks 6; operands = []; tail = Elements (Field 8) }

admitted : abbreviation_for of_bytes ≡ Some byte_abbreviation
unfolding abbreviation_for rest_of
admitted = refl

bytes_fit : (ns : List ℕ) → AllByRecursion (λ (n : ℕ). n < 256) ns → list_all (λ n. nat_lt n (2 ^ 8)) ns ≡ true
bytes_fit [] all = refl
bytes_fit (n ∷ ns) all = and_from (nat_lt n (2 ^ 8)) (list_all (λ n. nat_lt n (2 ^ 8)) ns) (lt-ltb n 256 all.0) (bytes_fit ns all.1)

fitting : (ns : List ℕ) → AllByRecursion (λ (n : ℕ). n < 256) ns → record_fits (Some byte_abbreviation) 1 ns ≡ true
unfolding record_fits each_fit tail_fits
fitting ns all = and_from _ _ (and_from _ true (le-leb 0 (length ns) (omega arith)) refl) (bytes_fit ns all)

wider : (ns : List ℕ) → AllByRecursion (λ (n : ℕ). n < 256) ns → AllByRecursion (λ (n : ℕ). n < 2 ^ 64) ns
wider [] all = tt
wider (n ∷ ns) all = let less = all.0 in (omega (arith, less), wider ns all.1)

-- each byte has eight bits
bytes_count : (ns : List ℕ) → length ns ≤ length (all_bits (Field 8) ns)
unfolding value_bits
bytes_count [] = omega arith
bytes_count (n ∷ ns) = let others = bytes_count ns in omega (arith, others, length-append (bits_of 8 n) (all_bits (Field 8) ns), length-bits_of 8 n)

record_count : (ns : List ℕ) (bits : List Bool) → length ns ≤ length (with_record (Some byte_abbreviation) 1 ns bits)
unfolding with_record with_tail each_bits
record_count ns bits =
    let a = bytes_count ns in
    omega (arith, a, length-append (bits ++ value_bits (Chunks 6) 1 ++ [] ++ chunks 6 (length ns)) (all_bits (Field 8) ns))

module _ (w : Writer) (id width : ℕ) (may : MayBlock id width) (none_given : w.scope.given ≡ []) (wide : 3 ≤ width) where
  abbrev shaped : Writer
  shaped = define (enter w id width) of_bytes

  shaped_is : shaped.scope ≡ defined (enter w id width).scope byte_abbreviation
  shaped_is = ap (with_abbreviation (enter w id width).scope) admitted ∙ rw may.ordinary refl

  found : abbreviation_of shaped.scope 4 ≡ Some byte_abbreviation
  found = ap (λ (s : Scope). abbreviation_of s 4) shaped_is ∙ rw none_given refl

  inside : is_top shaped.scope ≡ false
  inside = ap is_top shaped_is ∙ entered_inside w.scope id width

  ordinary : is_blockinfo shaped.scope ≡ false
  ordinary = ap is_blockinfo shaped_is ∙ may.ordinary

  may_define : MayDefine (enter w id width) of_bytes
  may_define = record {
    inside = entered_inside w.scope id width;
    numbers = refl;
    admitted = subst IsSome (sym admitted) refl;
    named = λ is. absurd (false≢true (sym may.ordinary ∙ is));
  }

  wide_is : shaped.scope.block.width ≡ width
  wide_is = ap (λ (s : Scope). s.block.width) shaped_is

  narrow : 4 < 2 ^ shaped.scope.block.width
  narrow = subst (λ (n : ℕ). 4 < 2 ^ n) (sym wide_is) (let most = pow_mono wide in omega (arith, most))

  -- there are fewer than bits
  pub bytes_few : (ns : List ℕ) → size (abbreviated shaped 4 1 ns) < 2 ^ 37 → length ns < 2 ^ 37
  bytes_few ns small =
      let a = ap (λ (t : Option AdmittedAbbreviation). length (with_record t 1 ns (shaped.bits ++ id_bits shaped 4))) found in
      let b = record_count ns (shaped.bits ++ id_bits shaped 4) in
      omega (arith, a, b, small)

  few : (ns : List ℕ) → size (abbreviated shaped 4 1 ns) < 2 ^ 37 → length ns < 2 ^ 64
  few ns small = let less = bytes_few ns small in omega (arith, less)

  pub bytes_allowed : (ns : List ℕ) → AllByRecursion (λ (n : ℕ). n < 256) ns → size (abbreviated shaped 4 1 ns) < 2 ^ 37 → Allowed (enter w id width) (a_definition of_bytes (a_short_record 4 1 ns no_more))
  unfolding Allowed
  bytes_allowed ns all small =
      let may_abbreviate : MayAbbreviate shaped 4 1 ns = record {
        put = record {
          inside = inside;
          code_small = omega arith;
          numbers = record { small = wider ns all; few = few ns small };
          names = λ named. absurd (false≢true (subst (λ (b : Bool). names_block b 1 ≡ true) ordinary named));
        };
        low = omega arith;
        narrow = narrow;
        fits = ap (λ (t : Option AdmittedAbbreviation). record_fits t 1 ns) found ∙ fitting ns all;
      } in
      (may_define, (may_abbreviate, tt))

  pub bytes_kept : (ns : List ℕ) → (end_block (abbreviated shaped 4 1 ns)).scope ≡ w.scope
  bytes_kept ns =
      let kept : (abbreviated shaped 4 1 ns).scope ≡ defined (enter w id width).scope byte_abbreviation = rw ordinary shaped_is in
      left_is w.scope (abbreviated shaped 4 1 ns).scope (ap (λ (s : Scope). s.around) kept) (ap (λ (s : Scope). s.given) kept)
