-- Blocks and records without abbreviations may be written, where the whole is small.
use Rattle.std.proofs.Common.{◌≡◌, ℕ, zero, suc, ◌+◌, ◌/◌, ◌^◌, ◌<◌, ◌≤◌, Bool, true, false, List, length, sym, ap, subst, arith}
use Rattle.std.proofs.lemmas.Bool.{false≢true}
use Rattle.bit_stream.specs.Scope.{Scope}
use Rattle.bit_stream.specs.Record.{names_block}
use Rattle.bit_stream.specs.Entry.{is_top, is_blockinfo}
use Rattle.bit_stream.specs.Writer.{Writer, enter, ended, end_block, put_record}
use Rattle.bit_tree.specs.Written.{Written, no_more, a_block, a_definition, a_record, a_short_record, written, MayEnter, NamesFirst, Allowed}
use Rattle.bit_tree.specs.Sizes.Plain.{MayBlock, IsPlain}
use Rattle.bit_tree.proofs.OnSizes.Grows.{size, around_kept, end_grows, put_grows, grows}
use Rattle.bit_tree.proofs.OnSizes.Kept.{left_is, entered_inside, entered_deep, put_kept, scope_kept}

-- in a block that is no BLOCKINFO, with so many others around it
pub record IsIn (room : ℕ) (s : Scope) : Type 0 where
  pub inside : is_top s ≡ false
  pub ordinary : is_blockinfo s ≡ false
  pub shallow : length s.around + room ≤ 16

no_name : (s : Scope) (code : ℕ) (ns : List ℕ) → is_blockinfo s ≡ false → names_block (is_blockinfo s) code ≡ true → NamesFirst ns
no_name s code ns ordinary named = absurd (false≢true (subst (λ (b : Bool). names_block b code ≡ true) ordinary named))

pub may_enter : (w : Writer) (id width : ℕ) → MayBlock id width → is_blockinfo w.scope ≡ false → length w.scope.around < 16 → MayEnter w id width
may_enter w id width may ordinary shallow = record { id_small = may.id_small; low = may.low; high = may.high; shallow = shallow; ordinary = ordinary }

pub entered_in : (w : Writer) (id width room : ℕ) → MayBlock id width → length w.scope.around + suc room ≤ 16 → IsIn room (enter w id width).scope
entered_in w id width room may shallow = record {
  inside = entered_inside w.scope id width;
  ordinary = may.ordinary;
  shallow = let deep = entered_deep w.scope id width in omega (arith, deep, shallow);
}

-- a block of a small whole has few words
pub few_words : (w : Writer) (id width : ℕ) (x : Writer) (behind : Written) → x.around ≡ (enter w id width).around → size (written (end_block x) behind) < 2 ^ 37 → length (ended x) / 32 < 2 ^ 32
few_words w id width x behind same small =
    let a = (end_grows w id width x same).1 in
    let b = grows behind (end_block x) in
    let c : length (ended x) < 2 ^ 37 = omega (arith, a, b, small) in
    omega (arith, c)

pub smaller : (w : Writer) (id width : ℕ) (x : Writer) (behind : Written) → x.around ≡ (enter w id width).around → size (written (end_block x) behind) < 2 ^ 37 → size x < 2 ^ 37
smaller w id width x behind same small =
    let a = (end_grows w id width x same).0 in
    let b = grows behind (end_block x) in
    omega (arith, a, b, small)

few_operands : (w : Writer) (code : ℕ) (ns : List ℕ) (behind : Written) → size (written (put_record w code ns) behind) < 2 ^ 37 → length ns < 2 ^ 64
few_operands w code ns behind small =
    let a = put_grows w code ns in
    let b = grows behind (put_record w code ns) in
    let c : length ns < 2 ^ 37 = omega (arith, a, b, small) in
    omega (arith, c)

pub plain_allowed : (all : Written) (room : ℕ) (w : Writer) → IsPlain room all → IsIn room w.scope → size (written w all) < 2 ^ 37 → Allowed w all
unfolding written IsPlain Allowed
plain_allowed no_more room w p here small = tt
plain_allowed (a_block id width inside behind) zero w p here small = elim p [ ]
plain_allowed (a_block id width inside behind) (suc room) w p here small =
    let x = written (enter w id width) inside in
    let same = around_kept inside (enter w id width) in
    let kept = scope_kept inside room (enter w id width) p.1 p.0.ordinary in
    let back : (end_block x).scope ≡ w.scope = left_is w.scope x.scope (ap (λ (s : Scope). s.around) kept) (ap (λ (s : Scope). s.given) kept) in
    let room_left = here.shallow in (
      may_enter w id width p.0 here.ordinary (omega (arith, room_left)),
      plain_allowed inside room (enter w id width) p.1 (entered_in w id width room p.0 here.shallow) (smaller w id width x behind same small),
      few_words w id width x behind same small,
      plain_allowed behind (suc room) (end_block x) p.2 (subst (IsIn (suc room)) (sym back) here) small,
    )
plain_allowed (a_definition ops behind) room w p here small = elim p [ ]
plain_allowed (a_record code ns behind) room w p here small =
    let few = few_operands w code ns behind small in (
      record { inside = here.inside; code_small = p.0.code_small; numbers = record { small = p.0.numbers few; few = few }; names = no_name w.scope code ns here.ordinary },
      plain_allowed behind room (put_record w code ns) p.1 (subst (IsIn room) (sym (put_kept w code ns here.ordinary)) here) small,
    )
plain_allowed (a_short_record id code ns behind) room w p here small = elim p [ ]
