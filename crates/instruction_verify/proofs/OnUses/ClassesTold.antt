-- Two constants have one number exactly where they are the same.
use Rattle.std.proofs.Common.{◌≡◌, ℕ, zero, suc, ◌+◌, ◌<◌, ◌≤◌, ◌==◌, Bool, true, false, List, [], ◌∷◌, ◌++◌, length, get_or, slice_get, Some, sym, ap, ◌∙◌, arith, cond, true≢false, below_more}
use Rattle.std.specs.Cmp.{unsigned_Decides}
use Rattle.std.specs.List.{IsDistinct, list_any}
use Rattle.std.proofs.lemmas.List.{get_or_append_left, length_push}
use Rattle.std.proofs.lemmas.Map.Keys.{apart_from_distinct}
use Rattle.std.proofs.lemmas.Option.{same_Some, none-some, slice_get-get_or, get_or_from_slice_get, slice_get_within}
use Rattle.std.proofs.Math.Seq.{get_or-append_seam}
use Rattle.std.proofs.lemmas.Bool.Decides.{same_from_decides}
use Rattle.indexmap.specs.IndexSet.{insert_key}
use Rattle.module_arena.specs.declared.constant.Const.{Const}
use Rattle.module_arena.specs.declared.constant.Const.TheVariants as const
use Rattle.module_arena.specs.Known.{KnowsConst, AreDistinct, IsGood, counts}
use Rattle.module_arena.specs.Lists.{Lists}
use Rattle.module_arena.specs.Same.{same_constant}
use Rattle.module_arena.specs.SameConst.{same_const}
use Rattle.module_arena.specs.SameConstLaws.{same_const_decides}
use Rattle.module_arena.specs.View.{constant_at, constants_of}
use Rattle.module_arena.proofs.ConstantsTold.{const_known, const_weaker, constant_here}
use Rattle.entry_verify.specs.Types.Classes.{AreClasses as AreTypeClasses}
use Rattle.entry_verify.proofs.OnTypes.ClassesTold.{neither}
use Rattle.instruction_verify.specs.Uses.Classes.{AreClasses}
use Rattle.instruction_verify.specs.Uses.Keys.{AreSlots, key_of}
use Rattle.instruction_verify.proofs.OnUses.KeysTold.{key_same, key_kept}

-- ---- keys in their places

place_clash : (keys : List Const) (i j : ℕ) (x y : Const) → IsDistinct same_const keys → slice_get keys i ≡ Some x → slice_get keys j ≡ Some y → x ≡ y → i < j → ⊥
place_clash keys i j x y apart ex ey e lt =
    let within = slice_get_within keys j y ey in
    let differ = apart_from_distinct same_const keys i j x apart lt within in
    let first = get_or_from_slice_get keys i x x ex in
    let second = get_or_from_slice_get keys j y x ey in
    true≢false (sym ((same_const_decides x y).1 e) ∙ (λ k. same_const (sym first k) (sym second k)) ∙ differ)

one_place : (keys : List Const) (i j : ℕ) (x y : Const) → IsDistinct same_const keys → slice_get keys i ≡ Some x → slice_get keys j ≡ Some y → x ≡ y → i ≡ j
one_place keys i j x y apart ex ey e =
    let less : i < j → ⊥ = place_clash keys i j x y apart ex ey e in
    let more : j < i → ⊥ = place_clash keys j i y x apart ey ex (sym e) in
    neither i j less more

module _ (a : Lists) (good : IsGood a) (distinct : AreDistinct a) (types classes : List ℕ) (keys : List Const)
    (alike : AreTypeClasses a.table types) (told : AreSlots a types classes keys (length a.constants)) where
  one_class : (i j : ℕ) → i < length a.constants → j < length a.constants → (get_or classes i 0 == get_or classes j 0)
      ≡ same_const (key_of types classes (get_or a.constants i const.Null)) (key_of types classes (get_or a.constants j const.Null))
  one_class i j li lj = same_from_decides (get_or classes i 0 == get_or classes j 0) (same_const x y) (unsigned_Decides (get_or classes i 0) (get_or classes j 0)) (to, from)
    where
      x : Const
      x = key_of types classes (get_or a.constants i const.Null)

      y : Const
      y = key_of types classes (get_or a.constants j const.Null)

      to : same_const x y ≡ true → get_or classes i 0 ≡ get_or classes j 0
      to e = one_place keys _ _ x y told.apart (told.slots i li) (told.slots j lj) ((same_const_decides x y).0 e)

      from : get_or classes i 0 ≡ get_or classes j 0 → same_const x y ≡ true
      from e = (same_const_decides x y).1 (same_Some x y (sym (told.slots i li) ∙ ap (slice_get keys) e ∙ told.slots j lj))

  known_below : (n i : ℕ) → i ≤ n → i < length a.constants → KnowsConst (length a.table.types) (counts a) n (get_or a.constants i const.Null)
  known_below n i le li =
      const_weaker (length a.table.types) (counts a) i n (get_or a.constants i const.Null) le
      (const_known a good i (get_or a.constants i const.Null) (slice_get-get_or a.constants i const.Null li))

  agree_below : (n : ℕ) → n ≤ length a.constants → (i j : ℕ) → i < n → j < n
      → (get_or classes i 0 == get_or classes j 0) ≡ same_constant (constant_at (constants_of a) i) (constant_at (constants_of a) j)
  agree_below zero le i j li lj = absurd (omega arith)
  agree_below (suc n) le i j li lj =
      let wi : i < length a.constants = omega arith in
      let wj : j < length a.constants = omega arith in
      let x = get_or a.constants i const.Null in
      let y = get_or a.constants j const.Null in
      let here = constant_here a good i x (slice_get-get_or a.constants i const.Null wi) in
      let there = constant_here a good j y (slice_get-get_or a.constants j const.Null wj) in
      one_class i j wi wj
      ∙ key_same a distinct types classes n alike (agree_below n (omega arith)) x y (known_below n i (omega arith) wi) (known_below n j (omega arith) wj)
      ∙ (λ k. same_constant (sym here k) (sym there k))

  pub classes_told : AreClasses (constants_of a) classes
  classes_told i j li lj = agree_below (length a.constants) (omega arith) i j (omega (arith, li, told.many)) (omega (arith, lj, told.many))

-- ---- one constant more

got_more : (xs ys : List Const) (n : ℕ) (x : Const) → slice_get xs n ≡ Some x → slice_get (xs ++ ys) n ≡ Some x
got_more [] ys n x e = absurd (none-some x e)
got_more (y ∷ xs) ys zero x e = e
got_more (y ∷ xs) ys (suc n) x e = got_more xs ys n x e

got_kept : (keys : List Const) (k : Const) (n : ℕ) (x : Const) → slice_get keys n ≡ Some x → slice_get (insert_key same_const keys k) n ≡ Some x
got_kept keys k n x e = by (list_any (same_const k) keys)
  where
    by : (b : Bool) → slice_get (cond b keys (keys ++ k ∷ [])) n ≡ Some x
    by true = e
    by false = got_more keys (k ∷ []) n x e

pub slots_next : (a : Lists) → IsGood a → (types classes : List ℕ) (keys more : List Const) (i c : ℕ) (x key stored : Const) → AreSlots a types classes keys i
    → slice_get a.constants i ≡ Some x → key ≡ key_of types classes x → more ≡ insert_key same_const keys key
    → slice_get more c ≡ Some stored → same_const key stored ≡ true → IsDistinct same_const more → AreSlots a types (classes ++ c ∷ []) more (i + 1)
slots_next a good types classes keys more i c x key stored told at is_key put found same apart =
    record { many = omega (arith, length_push classes c, told.many); apart = apart; slots = below_more (λ k. slice_get more (get_or (classes ++ c ∷ []) k 0) ≡ Some (key_of types (classes ++ c ∷ []) (get_or a.constants k const.Null))) i before here }
  where
    within : i < length a.constants
    within = slice_get_within a.constants i x at

    kept : (k : ℕ) → k ≤ i → key_of types (classes ++ c ∷ []) (get_or a.constants k const.Null) ≡ key_of types classes (get_or a.constants k const.Null)
    kept k le = key_kept types classes c (length a.table.types) (get_or a.constants k const.Null)
        (const_weaker (length a.table.types) (counts a) k (length classes) (get_or a.constants k const.Null) (omega (arith, le, told.many))
        (const_known a good k (get_or a.constants k const.Null) (slice_get-get_or a.constants k const.Null (omega (arith, le, within))))).typed_known

    before : (k : ℕ) → k < i → slice_get more (get_or (classes ++ c ∷ []) k 0) ≡ Some (key_of types (classes ++ c ∷ []) (get_or a.constants k const.Null))
    before k lt =
        ap (slice_get more) (get_or_append_left classes (c ∷ []) 0 k (omega (arith, told.many)))
        ∙ ap (λ ks. slice_get ks (get_or classes k 0)) put
        ∙ got_kept keys key (get_or classes k 0) (key_of types classes (get_or a.constants k const.Null)) (told.slots k lt)
        ∙ ap Some (sym (kept k (omega arith)))

    here : slice_get more (get_or (classes ++ c ∷ []) i 0) ≡ Some (key_of types (classes ++ c ∷ []) (get_or a.constants i const.Null))
    here =
        ap (slice_get more) (ap (λ n. get_or (classes ++ c ∷ []) n 0) (sym told.many) ∙ get_or-append_seam classes c [] 0)
        ∙ found
        ∙ ap Some (sym ((same_const_decides key stored).0 same) ∙ is_key ∙ ap (key_of types classes) (sym (get_or_from_slice_get a.constants i x const.Null at)) ∙ sym (kept i (omega arith)))
