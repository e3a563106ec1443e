-- Blocks of bytes and blocks without abbreviations may be written, where the whole is small.
use Rattle.std.proofs.Common.{◌≡◌, ℕ, ◌+◌, ◌^◌, ◌<◌, ◌≤◌, ◌⊎◌, [], length, refl, sym, ap, ◌∙◌, subst, arith, inl, inr}
use Rattle.bit_stream.specs.Entry.{is_blockinfo}
use Rattle.bit_stream.specs.Scope.{Scope, top_level}
use Rattle.bit_stream.specs.Writer.{Writer, begun, enter, end_block, define, abbreviated}
use Rattle.bit_tree.specs.Written.{Written, no_more, a_block, a_definition, a_record, a_short_record, written, Allowed}
use Rattle.bit_tree.specs.Sizes.Plain.{MayBlock, IsPlain, IsOfBytes, IsWhole, of_bytes, AreShort, weight}
use Rattle.bit_tree.proofs.OnSizes.Grows.{total, size, around_kept}
use Rattle.bit_tree.proofs.OnSizes.Weights.{heavier}
use Rattle.bit_tree.proofs.OnSizes.Kept.{left_is, scope_kept}
use Rattle.bit_tree.proofs.OnSizes.Plainly.{may_enter, entered_in, few_words, smaller, plain_allowed}
use Rattle.bit_tree.proofs.OnSizes.Bytewise.{bytes_allowed, bytes_few, bytes_kept}

module _ (w : Writer) (top : w.scope ≡ top_level) (id width : ℕ) (may : MayBlock id width) where
  none_given : w.scope.given ≡ []
  none_given = ap (λ (s : Scope). s.given) top

  inside_allowed : (inside : Written) → IsOfBytes width inside ⊎ IsPlain 15 inside → size (written (enter w id width) inside) < 2 ^ 37 → Allowed (enter w id width) inside
  unfolding written
  inside_allowed inside (inl bytes) small =
      subst (Allowed (enter w id width)) (sym bytes.is)
      (bytes_allowed w id width may none_given bytes.wide bytes.bytes bytes.small (subst (λ (i : Written). size (written (enter w id width) i) < 2 ^ 37) bytes.is small))
  inside_allowed inside (inr plain) small =
      plain_allowed inside 15 (enter w id width) plain (entered_in w id width 15 may (subst (λ (s : Scope). length s.around + 16 ≤ 16) (sym top) (omega arith))) small

  inside_kept : (inside : Written) → IsOfBytes width inside ⊎ IsPlain 15 inside → (end_block (written (enter w id width) inside)).scope ≡ w.scope
  unfolding written
  inside_kept inside (inl bytes) =
      ap (λ (i : Written). (end_block (written (enter w id width) i)).scope) bytes.is ∙ bytes_kept w id width may none_given bytes.wide bytes.bytes
  inside_kept inside (inr plain) =
      let x = written (enter w id width) inside in
      let kept = scope_kept inside 15 (enter w id width) plain may.ordinary in
      left_is w.scope x.scope (ap (λ (s : Scope). s.around) kept) (ap (λ (s : Scope). s.given) kept)

pub whole_allowed : (all : Written) (w : Writer) → IsWhole all → w.scope ≡ top_level → size (written w all) < 2 ^ 37 → Allowed w all
unfolding written IsWhole Allowed
whole_allowed no_more w p top small = tt
whole_allowed (a_block id width inside behind) w p top small =
    let x = written (enter w id width) inside in
    let same = around_kept inside (enter w id width) in (
      may_enter w id width p.0 (ap (λ (s : Scope). is_blockinfo s) top) (subst (λ (s : Scope). length s.around < 16) (sym top) (omega arith)),
      inside_allowed w top id width p.0 inside p.1 (smaller w id width x behind same small),
      few_words w id width x behind same small,
      whole_allowed behind (end_block x) p.2 (inside_kept w top id width p.0 inside p.1 ∙ top) small,
    )
whole_allowed (a_definition ops behind) w p top small = elim p [ ]
whole_allowed (a_record code ns behind) w p top small = elim p [ ]
whole_allowed (a_short_record id code ns behind) w p top small = elim p [ ]

inside_is : (w : Writer) (id width : ℕ) {inside : Written} (bytes : IsOfBytes width inside) → size (written (enter w id width) inside) < 2 ^ 37 → size (abbreviated (define (enter w id width) of_bytes) 4 1 bytes.bytes) < 2 ^ 37
unfolding written
inside_is w id width bytes small = subst (λ (i : Written). size (written (enter w id width) i) < 2 ^ 37) bytes.is small

-- a block of bytes has few of them
pub whole_short : (all : Written) (w : Writer) → IsWhole all → w.scope ≡ top_level → size (written w all) < 2 ^ 37 → AreShort all
unfolding written IsWhole AreShort
whole_short no_more w p top small = tt
whole_short (a_block id width inside behind) w p top small =
    let x = written (enter w id width) inside in
    let same = around_kept inside (enter w id width) in
    let inner = smaller w id width x behind same small in (
      λ bytes. bytes_few w id width p.0 (none_given w top id width p.0) bytes.wide bytes.bytes (inside_is w id width bytes inner),
      whole_short behind (end_block x) p.2 (inside_kept w top id width p.0 inside p.1 ∙ top) small,
    )
whole_short (a_definition ops behind) w p top small = elim p [ ]
whole_short (a_record code ns behind) w p top small = elim p [ ]
whole_short (a_short_record id code ns behind) w p top small = elim p [ ]

nothing : total [] ≡ 0
unfolding total
nothing = refl

whole_size : (all : Written) → length (written begun all).bits < 2 ^ 37 → size (written begun all) < 2 ^ 37
whole_size all small = let none : total (written begun all).around ≡ 0 = ap total (around_kept all begun) ∙ nothing in omega (arith, none, small)

pub wholes_allowed : (all : Written) → IsWhole all → length (written begun all).bits < 2 ^ 37 → Allowed begun all
wholes_allowed all p small = whole_allowed all begun p refl (whole_size all small)

pub wholes_short : (all : Written) → IsWhole all → length (written begun all).bits < 2 ^ 37 → AreShort all
wholes_short all p small = whole_short all begun p refl (whole_size all small)

pub records_few : (all : Written) → weight all ≤ length (written begun all).bits
records_few all =
    let none : total (written begun all).around ≡ 0 = ap total (around_kept all begun) ∙ nothing in
    let more = heavier all begun in
    omega (arith, none, more)
