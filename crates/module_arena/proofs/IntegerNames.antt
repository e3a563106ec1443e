-- The intrinsics over integers are found by their names, each at its width.
use Rattle.std.proofs.Common.{◌≡◌, ◌↔◌, ℕ, zero, suc, ◌+◌, ◌<◌, ◌≤◌, Bool, true, false, ◌&&◌, cond, List, [], ◌∷◌, ◌++◌, length, take, Option, Some, None, bytes_eq, nat_eq, slice_get, refl, sym, ap, ◌∙◌, subst, arith, true≢false}
use Rattle.std.specs.Prelude.{find}
use Rattle.std.specs.Fmt.{decimal}
use Rattle.std.specs.List.{starts_with}
use Rattle.std.specs.Cmp.Lexicographic.{bytes_decides}
use Rattle.std.proofs.lemmas.Bool.{and_parts, and_from}
use Rattle.std.proofs.Math.Seq.{take-append_seam}
use Rattle.ir_tables.specs.declared.intrinsic.Intrinsic.{Intrinsic}
use Rattle.ir_tables.specs.Intrinsic.{intrinsics}
use Rattle.ir_tables.specs.IntrinsicName.{has_width, name_front, IsNamed}
use Rattle.ir_tables.proofs.IntrinsicValues.{intrinsic_listed}
use Rattle.module_arena.specs.Module.{Bytes}
use Rattle.module_arena.specs.HostRows.{HostRow, Integer, width_named, row_at, row_among}
use Rattle.module_arena.specs.Known.{upto}
use Rattle.module_arena.proofs.Found.{some-equal, none≢some}

-- what a search through numbers in a row finds
pub found_among : (q : ℕ → Bool) (first count w : ℕ) → find q (upto first count) ≡ Some w → (first ≤ w) × (w < first + count) × (q w ≡ true)
unfolding upto
found_among q first zero w e = absurd (none≢some e)
found_among q first (suc count) w e = by (q first) refl (found_among q (first + 1) count w) e
  where
    by : (b : Bool) → q first ≡ b → (find q (upto (first + 1) count) ≡ Some w → (first + 1 ≤ w) × (w < first + 1 + count) × (q w ≡ true)) → cond b (Some first) (find q (upto (first + 1) count)) ≡ Some w → (first ≤ w) × (w < first + suc count) × (q w ≡ true)
    by true is rest e = let same : first ≡ w = some-equal e in (omega (arith, same), omega (arith, same), ap q (sym same) ∙ is)
    by false is rest e = let r = rest e in (omega (arith, r.0), omega (arith, r.1), r.2)

above : (first w : ℕ) → first ≤ w → (w ≡ first → ⊥) → first + 1 ≤ w
above first w low other = omega arith

-- a number that passes is not missed
not_missed : (q : ℕ → Bool) (first count w : ℕ) → first ≤ w → w < first + count → q w ≡ true → find q (upto first count) ≡ None → ⊥
unfolding upto
not_missed q first zero w low high is e = omega arith
not_missed q first (suc count) w low high is e = by (q first) refl (not_missed q (first + 1) count w) e
  where
    by : (b : Bool) → q first ≡ b → (first + 1 ≤ w → w < first + 1 + count → q w ≡ true → find q (upto (first + 1) count) ≡ None → ⊥) → cond b (Some first) (find q (upto (first + 1) count)) ≡ None → ⊥
    by true here rest e = none≢some (sym e)
    by false here rest e = rest (above first w low (λ same. true≢false (sym is ∙ ap q same ∙ here))) (omega arith) is e

-- the name at a width
abbrev passes : Bytes → Intrinsic → ℕ → Bool
passes name which width = has_width which width && bytes_eq (name_front which ++ decimal width) name

width_sound : (name : Bytes) (which : Intrinsic) (w : ℕ) → width_named name which ≡ Some w → IsNamed which w name
width_sound name which w e = by (starts_with nat_eq name (name_front which)) e
  where
    by : (b : Bool) → cond b (find (passes name which) (upto 1 128)) None ≡ Some w → IsNamed which w name
    by true e =
        let r = found_among (passes name which) 1 128 w e in
        let k = and_parts (has_width which w) (bytes_eq (name_front which ++ decimal w) name) r.2 in
        record { some = r.0; most = omega (arith, r.1); whole = k.0; named = sym ((bytes_decides (name_front which ++ decimal w) name).0 k.1) }
    by false e = absurd (none≢some e)

starts : (front rest : Bytes) → starts_with nat_eq (front ++ rest) front ≡ true
starts front rest = (bytes_decides front (take (length front) (front ++ rest))).1 (sym (take-append_seam front rest))

width_complete : (name : Bytes) (which : Intrinsic) (w : ℕ) → IsNamed which w name → width_named name which ≡ None → ⊥
width_complete name which w is e =
    let begins : starts_with nat_eq name (name_front which) ≡ true = ap (λ n. starts_with nat_eq n (name_front which)) is.named ∙ starts (name_front which) (decimal w) in
    let there : passes name which w ≡ true = and_from (has_width which w) (bytes_eq (name_front which ++ decimal w) name) is.whole ((bytes_decides (name_front which ++ decimal w) name).1 (sym is.named)) in
    let some = is.some in
    let most = is.most in
    not_missed (passes name which) 1 128 w some (omega (arith, most)) there (sym (ap (λ b. cond b (find (passes name which) (upto 1 128)) None) begins) ∙ e)

-- a row that is found, with what it is
record IsFound (name : Bytes) (row : HostRow) : Type 0 where
  which : Intrinsic
  width : ℕ
  is : row ≡ Integer which width
  named : IsNamed which width name

row_sound : (name : Bytes) (ws : List Intrinsic) (row : HostRow) → row_among name ws ≡ Some row → IsFound name row
row_sound name [] row e = absurd (none≢some e)
row_sound name (w ∷ ws) row e = by (width_named name w) refl (row_sound name ws row) e
  where
    by : (o : Option ℕ) → width_named name w ≡ o → (row_among name ws ≡ Some row → IsFound name row) → row_at w o (row_among name ws) ≡ Some row → IsFound name row
    by None was rest e = rest e
    by (Some n) was rest e = record { which = w; width = n; is = sym (some-equal e); named = width_sound name w n was }

row_complete : (name : Bytes) (ws : List Intrinsic) (i : ℕ) (which : Intrinsic) (width : ℕ) → slice_get ws i ≡ Some which → IsNamed which width name → row_among name ws ≡ None → ⊥
row_complete name [] i which width at is e = none≢some at
row_complete name (w ∷ ws) zero which width at is e = by (width_named name w) refl e
  where
    by : (o : Option ℕ) → width_named name w ≡ o → row_at w o (row_among name ws) ≡ None → ⊥
    by None was e = width_complete name w width (subst (λ x. IsNamed x width name) (sym (some-equal at)) is) was
    by (Some n) was e = none≢some (sym e)
row_complete name (w ∷ ws) (suc i) which width at is e = by (width_named name w) (row_complete name ws i which width at is) e
  where
    by : (o : Option ℕ) → (row_among name ws ≡ None → ⊥) → row_at w o (row_among name ws) ≡ None → ⊥
    by None rest e = rest e
    by (Some n) rest e = none≢some (sym e)

abbrev pub integer_of : Option (Intrinsic × ℕ) → Option HostRow
integer_of None = None
integer_of (Some told) = Some (Integer told.0 told.1)

-- what is told of a name is the row with that name
pub integer_told : (name : Bytes) (told : Option (Intrinsic × ℕ)) → ((which : Intrinsic) (width : ℕ) → (told ≡ Some (which, width)) ↔ IsNamed which width name)
    → integer_of told ≡ row_among name intrinsics
integer_told name None exact = by (row_among name intrinsics) refl
  where
    by : (o : Option HostRow) → row_among name intrinsics ≡ o → None ≡ o
    by None was = refl
    by (Some row) was = let found = row_sound name intrinsics row was in absurd (none≢some ((exact found.which found.width).1 found.named))
integer_told name (Some told) exact = by (row_among name intrinsics) refl
  where
    by : (o : Option HostRow) → row_among name intrinsics ≡ o → Some (Integer told.0 told.1) ≡ o
    by None was = let listed = intrinsic_listed told.0 in absurd (row_complete name intrinsics listed.0 told.0 told.1 listed.1 ((exact told.0 told.1).0 refl) was)
    by (Some row) was =
        let found = row_sound name intrinsics row was in
        let same : told ≡ (found.which, found.width) = some-equal ((exact found.which found.width).1 found.named) in
        ap Some ((λ j. Integer (same j).0 (same j).1) ∙ sym found.is)
