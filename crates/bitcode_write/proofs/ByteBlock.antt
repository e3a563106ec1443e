-- A block of one record of bytes.
use Rattle.std.proofs.Common.{◌≡◌, ◌≢◌, ℕ, ◌<◌, ◌^◌, ◌==◌, true, false, nat_lt, List, [], ◌∷◌, length, Some, All, refl, ap, ◌∙◌, arith}
use Rattle.std.specs.List.{list_all, AllByRecursion}
use Rattle.std.proofs.lemmas.Bool.{and_from, ne_eqb, lt-ltb, le-leb}
use Rattle.std.proofs.lemmas.List.Elements.{recursion_from_All}
use Rattle.bit_stream.specs.Abbreviation.{AdmittedAbbreviation}
use Rattle.bit_stream.specs.declared.abbreviation.ValueSpelling.TheVariants.{Field, Chunks}
use Rattle.bit_stream.specs.declared.abbreviation.Tail.TheVariants.{Elements}
use Rattle.bit_stream.specs.Entry.{defined}
use Rattle.bit_stream.specs.Scope.{Scope, abbreviation_of}
use Rattle.bit_stream.specs.Spelling.{abbreviation_for, rest_of, record_fits, each_fit, tail_fits}
use Rattle.bit_stream.specs.Writer.{Writer, enter, end_block, define, abbreviated, in_force, with_abbreviation, after_record}
use Rattle.bit_tree.specs.Written.{no_more, written}
use Rattle.record_table.specs.Spelling.{of_bytes, put_bytes}
use Rattle.bitcode_write.specs.Put.{IsOutside, PutsOutside}
use Rattle.bitcode_write.proofs.Lined.{around_ended}

-- bytes behind a code
abbrev pub byte_abbreviation : AdmittedAbbreviation
byte_abbreviation = record { code = Chunks 6; operands = []; tail = Elements (Field 8) }

pub admitted : abbreviation_for of_bytes ≡ Some byte_abbreviation
unfolding abbreviation_for rest_of
admitted = refl

bytes_fit : (ns : List ℕ) → AllByRecursion (λ (n : ℕ). n < 256) ns → list_all (λ n. nat_lt n (2 ^ 8)) ns ≡ true
bytes_fit [] all = refl
bytes_fit (n ∷ ns) all = and_from (nat_lt n (2 ^ 8)) (list_all (λ n. nat_lt n (2 ^ 8)) ns) (lt-ltb n 256 all.0) (bytes_fit ns all.1)

pub fitting : (ns : List ℕ) → All (λ (n : ℕ). n < 256) ns → record_fits (Some byte_abbreviation) 1 ns ≡ true
unfolding record_fits each_fit tail_fits
fitting ns all = and_from _ _ (and_from _ true (le-leb 0 (length ns) (omega arith)) refl) (bytes_fit ns (recursion_from_All (λ (n : ℕ). n < 256) ns all))

module _ (w : Writer) (id : ℕ) (outside : IsOutside w) (ordinary : id ≢ 0) where
  plain : (id == 0) ≡ false
  plain = ne_eqb id 0 ordinary

  pub none_in_force : in_force (enter w id 3).scope ≡ 0
  none_in_force = rw plain (rw outside.none_given refl)

  pub defined_is : (define (enter w id 3) of_bytes).scope ≡ defined (enter w id 3).scope byte_abbreviation
  defined_is = ap (with_abbreviation (enter w id 3).scope) admitted ∙ rw plain refl

  pub found : abbreviation_of (define (enter w id 3) of_bytes).scope 4 ≡ Some byte_abbreviation
  found = ap (λ (s : Scope). abbreviation_of s 4) defined_is ∙ rw outside.none_given refl

  pub whole : (ns : List ℕ) (b c d e : Writer) → b ≡ enter w id 3 → c ≡ define b of_bytes → d ≡ abbreviated c 4 1 ns → e ≡ end_block d → PutsOutside w (put_bytes id ns no_more) e
  unfolding written
  whole ns b c d e entered shaped put ended =
      let last = abbreviated (define (enter w id 3) of_bytes) 4 1 ns in
      let at : e ≡ end_block last = ended ∙ ap end_block (put ∙ ap (λ (x : Writer). abbreviated x 4 1 ns) (shaped ∙ ap (λ (x : Writer). define x of_bytes) entered)) in
      let given : last.scope.given ≡ [] = ap (λ (s : Scope). (after_record s 1 ns).given) defined_is ∙ rw plain outside.none_given in
      record {
        put = at;
        outside = record {
          unspent = ap (λ (x : Writer). x.spent) at ∙ outside.unspent;
          outside = ap (λ (x : Writer). x.around) at ∙ around_ended w id 3 last refl ∙ outside.outside;
          none_given = ap (λ (x : Writer). x.scope.given) at ∙ given;
        };
      }
