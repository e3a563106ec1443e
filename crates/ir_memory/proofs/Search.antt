-- The page of an address and the last live block of it that begins at or below the address are the only ones that can have
-- it, and how starts of pages are kept.
use Rattle.std.proofs.Common.{◌≡◌, ℕ, zero, suc, ◌+◌, ◌-◌, ◌*◌, ◌/◌, ◌%◌, ◌<◌, ◌≤◌, List, [], ◌∷◌, ◌++◌, length, get_or, set, arith, true, false, Option, Some, None, subst, inl, inr, ap, sym, refl, ◌∙◌, length-append}
use Rattle.std.specs.Prelude.{◌≢◌, replicate}
use Rattle.std.proofs.lemmas.Bool.{cases_lt, cases_eq}
use Rattle.std.proofs.lemmas.Bool.Decides.{nat_tests}
use Rattle.std.proofs.lemmas.List.{get_or_push, get_or_append_left, length-set, get_or-set_same, get_or-set_other}
use Rattle.ir_eval.specs.declared.value.Scalar.{Scalar}
use Rattle.ir_memory.specs.declared.pointers.piece.PointerPiece.{PointerPiece}
use Rattle.ir_memory.specs.declared.access.BlockPlace.{BlockPlace}
use Rattle.ir_memory.specs.declared.kept.KeptBlock.{KeptBlock}
use Rattle.ir_memory.specs.declared.leaf.Leaf.{Leaf}
use Rattle.ir_memory.specs.declared.cell.Cell.{Cell}
use Rattle.ir_memory.specs.declared.cell.Cell.TheVariants as cell
use Rattle.ir_memory.specs.Cell.{leaf_cells}
use Rattle.ir_memory.specs.MemoryBlock.{MemoryBlock, gone, written}
use Rattle.ir_memory.specs.Memory.{changed, cells_at}
use Rattle.ir_memory.specs.Kept.{IsPlaced}
use Rattle.ir_memory.specs.Seen.{all_seen, ended_block}
use Rattle.ir_memory.specs.Find.{AreBefore, AreStarts, HasOnly, IsLast, IsSplit, noted}
use Rattle.ir_memory.proofs.Changed.{length-all, seen-read}
use Rattle.ir_memory.proofs.Known.{length-changed}
use Rattle.ir_memory.proofs.Placed.{IsPlaced-apart, IsPlaced-at}

-- pages that start at or below an address, and those that do not
module _ (p : ℕ → Option PointerPiece) (kept : List KeptBlock) (starts : List ℕ) (address below : ℕ) (are : AreStarts starts (all_seen p kept)) (split : IsSplit starts address below) where
  -- a live block that can have the address is one of the last page that starts at or below it
  paged : (k : ℕ) (d : MemoryBlock) → k < length (all_seen p kept) → (get_or (all_seen p kept) k d).live ≡ true → (get_or (all_seen p kept) k d).start ≤ address → address ≤ (get_or (all_seen p kept) k d).start + (get_or (all_seen p kept) k d).size → k / 64 + 1 ≡ below
  paged k d within live above inside = elim (cases_lt (k / 64) below) [
    | inr h ↦
        let page : k / 64 < length starts = omega (arith, within, are.enough) in
        let low = are.low k d within live in
        let high = split.high (k / 64) h page in
        absurd (omega (arith, low, high, above))
    | inl h ↦ elim (cases_lt (k / 64 + 1) below) [
      | inl g ↦
          let high = are.high k (below - 1) d within live (omega (arith, g)) (omega (arith, g, split.within)) in
          let low = split.low (below - 1) (omega (arith, g)) in
          absurd (omega (arith, high, low, inside))
      | inr g ↦ omega (arith, h, g)
    ]
  ]

  -- no page starts at or below the address
  pub only_none : below ≡ 0 → HasOnly (all_seen p kept) address None
  only_none e k d within live above inside = absurd (omega (arith, paged k d within live above inside, e))

  -- the last block of that page that begins at or below the address is the one that can have it
  pub only_last : (next from to : ℕ) (place : Option ℕ) → IsPlaced 65536 (all_seen p kept) next → from + 64 ≡ 64 * below → to ≤ length kept → ((k : ℕ) → k < length kept → k < from + 64 → k < to) → IsLast kept from to address place → HasOnly (all_seen p kept) address place
  only_last next from to None placed page most reach none k d within live above inside =
      let here = paged k d within live above inside in
      let h : k < length kept = omega (arith, within, length-all p kept) in
      let is = seen-read p kept k d ended_block h in
      let after = none k (omega (arith, here, page)) (reach k h (omega (arith, here, page))) (ap (λ x. x.live) (sym is) ∙ live) in
      absurd (omega (arith, after, ap (λ x. x.start) is, above))
  only_last next from to (Some i) placed page most reach found k d within live above inside =
      let here = paged k d within live above inside in
      let h : k < length kept = omega (arith, within, length-all p kept) in
      let is = seen-read p kept k d ended_block h in
      elim (cases_lt i k) [
        | inl l ↦
            let after = found.3 k (omega (arith, l)) (reach k h (omega (arith, here, page))) (ap (λ x. x.live) (sym is) ∙ live) in
            absurd (omega (arith, after, ap (λ x. x.start) is, above))
        | inr l ↦ elim (cases_lt k i) [
          | inl g ↦
              let lt : i < length kept = omega (arith, found.0, most) in
              let there = seen-read p kept i d ended_block lt in
              let apart = IsPlaced-apart (all_seen p kept) 65536 next d k i placed g (omega (arith, lt, length-all p kept)) live (ap (λ x. x.live) there ∙ found.1) in
              absurd (omega (arith, apart, ap (λ x. x.start) there, found.2, inside))
          | inr g ↦ let same : i ≡ k = omega (arith, l, g) in ap Some same
        ]
      ]

pub AreStarts-none : AreStarts [] []
AreStarts-none = record {
  enough = omega arith;
  few = omega arith;
  rising = λ p q h l. absurd (omega (arith, l));
  low = λ k d h l. absurd (omega (arith, h));
  high = λ k p d h l a b. absurd (omega (arith, h));
}

-- by whether the block of a number is the first of a page
by_page : (P : List ℕ → Type 0) (index start : ℕ) (starts : List ℕ) → (index % 64 ≡ 0 → P (starts ++ start ∷ [])) → (index % 64 ≢ 0 → P starts) → P (noted index start starts)
by_page P index start starts first other = elim (cases_eq (index % 64) 0) [
  | inl e ↦ subst P (sym (yes e)) (first e)
  | inr n ↦ subst P (sym (no n)) (other n)
]
  where
    yes : index % 64 ≡ 0 → noted index start starts ≡ starts ++ start ∷ []
    yes e = grind (arith, nat_tests)

    no : index % 64 ≢ 0 → noted index start starts ≡ starts
    no n = grind (arith, nat_tests)

-- a block is added behind all others
module _ (starts : List ℕ) (bs : List MemoryBlock) (b : MemoryBlock) (next : ℕ) (are : AreStarts starts bs) (before : AreBefore starts next) (placed : IsPlaced 65536 bs next) (above : next ≤ b.start) where
  early : (k : ℕ) (d : MemoryBlock) → k < length bs → get_or (bs ++ b ∷ []) k d ≡ get_or bs k d
  early k d h = get_or_append_left bs (b ∷ []) d k h

  late : (k : ℕ) (d : MemoryBlock) → k ≡ length bs → get_or (bs ++ b ∷ []) k d ≡ b
  late k d e = get_or_push bs b d k (sym e)

  -- by whether a block is the new one
  by_age : (P : MemoryBlock → Type 0) (k : ℕ) (d : MemoryBlock) → k < length (bs ++ b ∷ []) → (k < length bs → P (get_or bs k d)) → (k ≡ length bs → P b) → P (get_or (bs ++ b ∷ []) k d)
  by_age P k d h old new = elim (cases_lt k (length bs)) [
    | inl g ↦ subst P (sym (early k d g)) (old g)
    | inr g ↦ let e : k ≡ length bs = omega (arith, h, g, length-append bs (b ∷ [])) in subst P (sym (late k d e)) (new e)
  ]

  -- the page of the new block was there
  other : length bs % 64 ≢ 0 → AreStarts starts (bs ++ b ∷ [])
  other n = record {
    enough = omega (arith, length-append bs (b ∷ []), are.enough, n);
    few = omega (arith, length-append bs (b ∷ []), are.few);
    rising = are.rising;
    low = λ k d h. by_age (λ x. x.live ≡ true → get_or starts (k / 64) 0 ≤ x.start) k d h
        (λ g l. are.low k d g l)
        (λ e l. let old = before (k / 64) (omega (arith, e, are.enough, n)) in omega (arith, old, above));
    high = λ k p d h. by_age (λ x. x.live ≡ true → k / 64 < p → p < length starts → x.start + x.size < get_or starts p 0) k d h
        (λ g l. are.high k p d g l)
        (λ e l a c. absurd (omega (arith, e, a, c, are.few, n)));
  }

  old_start : (p : ℕ) → p < length starts → get_or (starts ++ b.start ∷ []) p 0 ≡ get_or starts p 0
  old_start p h = get_or_append_left starts (b.start ∷ []) 0 p h

  new_start : (p : ℕ) → p ≡ length starts → get_or (starts ++ b.start ∷ []) p 0 ≡ b.start
  new_start p e = get_or_push starts b.start 0 p (sym e)

  -- no start is above the new one
  last_start : (p : ℕ) → p < length (starts ++ b.start ∷ []) → get_or (starts ++ b.start ∷ []) p 0 ≤ b.start
  last_start p h = elim (cases_lt p (length starts)) [
    | inl g ↦ omega (arith, old_start p g, before p g, above)
    | inr g ↦ omega (arith, new_start p (omega (arith, h, g, length-append starts (b.start ∷ []))))
  ]

  more_rising : (p q : ℕ) → p ≤ q → q < length (starts ++ b.start ∷ []) → get_or (starts ++ b.start ∷ []) p 0 ≤ get_or (starts ++ b.start ∷ []) q 0
  more_rising p q le h = elim (cases_lt q (length starts)) [
    | inl g ↦ omega (arith, old_start p (omega (arith, g, le)), old_start q g, are.rising p q le g)
    | inr g ↦ omega (arith, new_start q (omega (arith, h, g, length-append starts (b.start ∷ []))), last_start p (omega (arith, h, le)))
  ]

  -- an old live block ends before a page that starts with the new one
  more_high : (k p : ℕ) (d : MemoryBlock) → k < length bs → (get_or bs k d).live ≡ true → k / 64 < p → p < length (starts ++ b.start ∷ []) → (get_or bs k d).start + (get_or bs k d).size < get_or (starts ++ b.start ∷ []) p 0
  more_high k p d g l a c = elim (cases_lt p (length starts)) [
    | inl f ↦ omega (arith, old_start p f, are.high k p d g l a f)
    | inr f ↦
        let end = IsPlaced-at bs 65536 next d k placed g l in
        omega (arith, new_start p (omega (arith, c, f, length-append starts (b.start ∷ []))), end.1, above)
  ]

  -- the new block is the first of its page
  first : length bs % 64 ≡ 0 → AreStarts (starts ++ b.start ∷ []) (bs ++ b ∷ [])
  first z = record {
    enough = omega (arith, length-append bs (b ∷ []), length-append starts (b.start ∷ []), are.enough, z);
    few = omega (arith, length-append bs (b ∷ []), length-append starts (b.start ∷ []), are.few, are.enough, z);
    rising = more_rising;
    low = λ k d h. by_age (λ x. x.live ≡ true → get_or (starts ++ b.start ∷ []) (k / 64) 0 ≤ x.start) k d h
        (λ g l. omega (arith, old_start (k / 64) (omega (arith, g, are.enough)), are.low k d g l))
        (λ e l. last_start (k / 64) (omega (arith, e, z, are.few, are.enough, length-append starts (b.start ∷ []))));
    high = λ k p d h. by_age (λ x. x.live ≡ true → k / 64 < p → p < length (starts ++ b.start ∷ []) → x.start + x.size < get_or (starts ++ b.start ∷ []) p 0) k d h
        (λ g l a c. more_high k p d g l a c)
        (λ e l a c. absurd (omega (arith, e, z, a, c, are.few, are.enough, length-append starts (b.start ∷ []))));
  }

  pub AreStarts-added : AreStarts (noted (length bs) b.start starts) (bs ++ b ∷ [])
  AreStarts-added = by_page (λ s. AreStarts s (bs ++ b ∷ [])) (length bs) b.start starts first other

  pub AreBefore-added : (after : ℕ) → b.start ≤ after → AreBefore (noted (length bs) b.start starts) after
  AreBefore-added after h =
      by_page (λ s. AreBefore s after) (length bs) b.start starts
      (λ e p l. let last = last_start p l in omega (arith, last, h))
      (λ n p l. let old = before p l in omega (arith, old, above, h))

-- a live block ends
module _ (starts : List ℕ) (bs : List MemoryBlock) (i : ℕ) (within : i < length bs) (are : AreStarts starts bs) where
  still : (k : ℕ) (d : MemoryBlock) → (get_or (set bs i gone) k d).live ≡ true → get_or (set bs i gone) k d ≡ get_or bs k d
  still k d l = elim (cases_eq k i) [
    | inl e ↦ absurd (never (sym (ap (λ x. x.live) (ap (λ j. get_or (set bs i gone) j d) e ∙ get_or-set_same bs i gone d within)) ∙ l))
    | inr n ↦ get_or-set_other bs i k gone d n
  ]
    where
      never : false ≡ true → ⊥
      never e = cc

  pub AreStarts-ended : AreStarts starts (set bs i gone)
  AreStarts-ended = record {
    enough = omega (arith, length-set bs i gone, are.enough);
    few = omega (arith, length-set bs i gone, are.few);
    rising = are.rising;
    low = λ k d h l.
        let e = still k d l in
        subst (λ x. get_or starts (k / 64) 0 ≤ x.start) (sym e) (are.low k d (omega (arith, h, length-set bs i gone)) (subst (λ x. x.live ≡ true) e l));
    high = λ k p d h l a c.
        let e = still k d l in
        subst (λ x. x.start + x.size < get_or starts p 0) (sym e) (are.high k p d (omega (arith, h, length-set bs i gone)) (subst (λ x. x.live ≡ true) e l) a c);
  }

-- a write changes no start
written-live : (i at : ℕ) (new : List Cell) (bs : List MemoryBlock) (k : ℕ) (d : MemoryBlock) → (get_or (changed i (written at new) bs) k d).live ≡ (get_or bs k d).live
written-live i at new [] k d = refl
written-live zero at new (b ∷ bs) zero d = refl
written-live zero at new (b ∷ bs) (suc k) d = refl
written-live (suc i) at new (b ∷ bs) zero d = refl
written-live (suc i) at new (b ∷ bs) (suc k) d = written-live i at new bs k d

written-start : (i at : ℕ) (new : List Cell) (bs : List MemoryBlock) (k : ℕ) (d : MemoryBlock) → (get_or (changed i (written at new) bs) k d).start ≡ (get_or bs k d).start
written-start i at new [] k d = refl
written-start zero at new (b ∷ bs) zero d = refl
written-start zero at new (b ∷ bs) (suc k) d = refl
written-start (suc i) at new (b ∷ bs) zero d = refl
written-start (suc i) at new (b ∷ bs) (suc k) d = written-start i at new bs k d

written-size : (i at : ℕ) (new : List Cell) (bs : List MemoryBlock) (k : ℕ) (d : MemoryBlock) → (get_or (changed i (written at new) bs) k d).size ≡ (get_or bs k d).size
written-size i at new [] k d = refl
written-size zero at new (b ∷ bs) zero d = refl
written-size zero at new (b ∷ bs) (suc k) d = refl
written-size (suc i) at new (b ∷ bs) zero d = refl
written-size (suc i) at new (b ∷ bs) (suc k) d = written-size i at new bs k d

pub AreStarts-written : (starts : List ℕ) (i at : ℕ) (new : List Cell) (bs : List MemoryBlock) → AreStarts starts bs → AreStarts starts (changed i (written at new) bs)
AreStarts-written starts i at new bs are = record {
  enough = omega (arith, length-changed i (written at new) bs, are.enough);
  few = omega (arith, length-changed i (written at new) bs, are.few);
  rising = are.rising;
  low = λ k d h l. omega (arith, written-start i at new bs k d, are.low k d (omega (arith, h, length-changed i (written at new) bs)) (sym (written-live i at new bs k d) ∙ l));
  high = λ k p d h l a c. omega (arith, written-start i at new bs k d, written-size i at new bs k d, are.high k p d (omega (arith, h, length-changed i (written at new) bs)) (sym (written-live i at new bs k d) ∙ l) a c);
}

pub AreStarts-stored : (starts : List ℕ) (place : BlockPlace) (leaf : Leaf) (value : Scalar) (bs : List MemoryBlock) → AreStarts starts bs → AreStarts starts (changed place.index (written place.offset (leaf_cells leaf value)) bs)
AreStarts-stored starts place leaf value bs are = AreStarts-written starts place.index place.offset (leaf_cells leaf value) bs are

pub AreStarts-filled : (starts : List ℕ) (place : BlockPlace) (count byte : ℕ) (bs : List MemoryBlock) → AreStarts starts bs → AreStarts starts (changed place.index (written place.offset (replicate count (cell.Byte byte))) bs)
AreStarts-filled starts place count byte bs are = AreStarts-written starts place.index place.offset (replicate count (cell.Byte byte)) bs are

pub AreStarts-copied : (starts : List ℕ) (target source : BlockPlace) (count : ℕ) (bs : List MemoryBlock) → AreStarts starts bs → AreStarts starts (changed target.index (written target.offset (cells_at bs count (Some source))) bs)
AreStarts-copied starts target source count bs are = AreStarts-written starts target.index target.offset (cells_at bs count (Some source)) bs are
