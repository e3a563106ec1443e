-- The block that a writer is in, and the blocks around it, are kept by what is written there.
use Rattle.std.proofs.Common.{◌≡◌, ℕ, zero, suc, ◌-◌, false, List, [], ◌∷◌, ◌++◌, length, take, refl, sym, ap, ◌∙◌, subst, arith}
use Rattle.std.specs.List.{slice_index_or}
use Rattle.std.proofs.lemmas.Bool.{ne_eqb}
use Rattle.std.proofs.lemmas.List.{length-append, get_or_at, take_at}
use Rattle.bit_stream.specs.Scope.{Scope}
use Rattle.bit_stream.specs.Entry.{entered, block_left, is_top, is_blockinfo}
use Rattle.bit_stream.specs.Writer.{Writer, enter, end_block, put_record}
use Rattle.bit_tree.specs.Written.{Written, no_more, a_block, a_definition, a_record, a_short_record, written}
use Rattle.bit_tree.specs.Sizes.Plain.{IsPlain}

-- what is left is the block around
pub left_is : (s x : Scope) → x.around ≡ s.around ++ s.block ∷ [] → x.given ≡ s.given → block_left x ≡ s
left_is s x same given =
    let count : length x.around - 1 ≡ length s.around = omega (arith, ap length same, length-append s.around (s.block ∷ [])) in
    let block : slice_index_or x.around (length x.around - 1) x.block ≡ s.block = rw (count, same) (get_or_at s.around s.block [] x.block (length s.around) refl) in
    let around : take (length x.around - 1) x.around ≡ s.around = rw (count, same) (take_at s.around (s.block ∷ []) (length s.around) refl) in
    λ i. record { block = block i; around = around i; given = given i }

pub entered_inside : (s : Scope) (id width : ℕ) → is_top (entered s id width 0 0) ≡ false
entered_inside s id width = ne_eqb (length (s.around ++ s.block ∷ [])) 0 (omega (arith, length-append s.around (s.block ∷ [])))

pub entered_deep : (s : Scope) (id width : ℕ) → length (entered s id width 0 0).around ≡ suc (length s.around)
entered_deep s id width = omega (arith, length-append s.around (s.block ∷ []))

-- a record that is written in no BLOCKINFO
pub put_kept : (w : Writer) (code : ℕ) (ns : List ℕ) → is_blockinfo w.scope ≡ false → (put_record w code ns).scope ≡ w.scope
put_kept w code ns plain = rw plain refl

abbrev IsOrdinary : Scope → Type 0
IsOrdinary s = is_blockinfo s ≡ false

pub scope_kept : (all : Written) (room : ℕ) (w : Writer) → IsPlain room all → is_blockinfo w.scope ≡ false → (written w all).scope ≡ w.scope
unfolding written IsPlain
scope_kept no_more room w p plain = refl
scope_kept (a_block id width inside behind) zero w p plain = elim p [ ]
scope_kept (a_block id width inside behind) (suc room) w p plain =
    let x = written (enter w id width) inside in
    let here = scope_kept inside room (enter w id width) p.1 p.0.ordinary in
    let back : (end_block x).scope ≡ w.scope = left_is w.scope x.scope (ap (λ (s : Scope). s.around) here) (ap (λ (s : Scope). s.given) here) in
    scope_kept behind (suc room) (end_block x) p.2 (subst IsOrdinary (sym back) plain) ∙ back
scope_kept (a_definition ops behind) room w p plain = elim p [ ]
scope_kept (a_record code ns behind) room w p plain =
    let here = put_kept w code ns plain in
    scope_kept behind room (put_record w code ns) p.1 (subst IsOrdinary (sym here) plain) ∙ here
scope_kept (a_short_record id code ns behind) room w p plain = elim p [ ]
