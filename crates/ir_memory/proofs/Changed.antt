-- One block of the table and the pieces in one of its ranges are changed: what is seen, and what stays sound.
use Rattle.std.proofs.Common.{◌≡◌, ℕ, zero, suc, ◌+◌, ◌-◌, ◌<◌, ◌≤◌, ◌^◌, ◌⊎◌, inl, inr, List, [], ◌∷◌, ◌++◌, length, set, get_or, map, replicate, refl, sym, ap, ◌∙◌, subst, arith, Bool, true, false, Option, Some, None}
use Rattle.std.specs.Prelude.{◌≢◌, Result, Ok, Err, OnErr}
use Rattle.std.proofs.lemmas.Bool.{cases_lt, cases_eq}
use Rattle.std.proofs.lemmas.List.{length-map, length-set, length-append, length-drop, length-take, length-replicate, get_or_default, get_or_append_left, get_or-append_right, get_or-map, get_or-set_same, get_or-set_other, same_lists}
use Rattle.ir_memory.specs.declared.pointers.piece.PointerPiece.{PointerPiece}
use Rattle.ir_memory.specs.Masked.Masked.{mapped_with_places, put}
use Rattle.ir_memory.proofs.OnMasked.Placed.{placed-same, placed-put, placed-map}
use Rattle.ir_memory.specs.declared.cell.Cell.{Cell}
use Rattle.ir_memory.specs.declared.cell.Cell.TheVariants as cell
use Rattle.ir_memory.specs.declared.kind.BlockKind.{BlockKind}
use Rattle.ir_memory.specs.declared.kept.KeptBlock.{KeptBlock}
use Rattle.ir_memory.specs.declared.access.BlockPlace.{BlockPlace}
use Rattle.ir_memory.specs.MemoryBlock.{MemoryBlock, written, gone, new_block}
use Rattle.ir_memory.specs.Memory.{changed}
use Rattle.ir_memory.specs.Kept.{IsPlaced}
use Rattle.ir_memory.specs.Seen.{over, plain, cells, fresh, ended_block, seen, all_seen, IsRoom, IsSound}
use Rattle.ir_memory.proofs.Placed.{IsPlaced-at, IsPlaced-apart, IsPlaced-written, IsPlaced-ended, IsPlaced-push, changed-set, changed-ended}

pub length-all : (p : ℕ → Option PointerPiece) (kept : List KeptBlock) → length (all_seen p kept) ≡ length kept
length-all p kept = length-map kept (seen p)

-- what is seen of a block that is read
pub seen-read : (p : ℕ → Option PointerPiece) (kept : List KeptBlock) (i : ℕ) (d : MemoryBlock) (e : KeptBlock) → i < length kept → get_or (all_seen p kept) i d ≡ seen p (get_or kept i e)
seen-read p kept i d e h = get_or-map (seen p) kept i e d h

-- a block is the same where the pieces at its addresses are
pub same-seen : (p q : ℕ → Option PointerPiece) (b : KeptBlock) → ((k : ℕ) → k < length b.bytes → q (b.start + k) ≡ p (b.start + k)) → seen q b ≡ seen p b
same-seen p q b same =
    ap (λ cs. record { start = b.start; size = b.size; kind = b.kind; live = b.live; cells = cs })
    (placed-same (λ a x. over (q a) x) (λ a x. over (p a) x) b.start b.start b.bytes (λ k x h. ap (λ o. over o x) (same k h)))

-- pieces that are the same everywhere
pub all-same : (p q : ℕ → Option PointerPiece) (kept : List KeptBlock) → ((a : ℕ) → q a ≡ p a) → all_seen q kept ≡ all_seen p kept
all-same p q [] same = refl
all-same p q (b ∷ bs) same = ap (λ x. x ∷ all_seen q bs) (same-seen p q b (λ k h. same (b.start + k))) ∙ ap (λ xs. seen p b ∷ xs) (all-same p q bs same)

pub sound-same : (p q : ℕ → Option PointerPiece) (kept : List KeptBlock) (next : ℕ) → ((a : ℕ) → q a ≡ p a) → IsSound p kept next → IsSound q kept next
sound-same p q kept next same sound = record {
  placed = subst (λ bs. IsPlaced 65536 bs next) (sym (all-same p q kept same)) sound.placed;
  small = sound.small;
  whole = sound.whole;
  gone = sound.gone;
  ahead = λ a h. same a ∙ sound.ahead a h;
  unmixed = λ k d h m a low high. same a ∙ sound.unmixed k d h m a low high;
}

-- a live block is placed
pub placed-kept : (p : ℕ → Option PointerPiece) (kept : List KeptBlock) (next k : ℕ) (d : KeptBlock) → IsSound p kept next → k < length kept → (get_or kept k d).live ≡ true → (65536 ≤ (get_or kept k d).start) × ((get_or kept k d).start + (get_or kept k d).size + 16 ≤ next)
placed-kept p kept next k d sound h live =
    let e = seen-read p kept k (seen p d) d h in
    subst (λ x. (65536 ≤ x.start) × (x.start + x.size + 16 ≤ next)) e
    (IsPlaced-at (all_seen p kept) 65536 next (seen p d) k sound.placed (omega (arith, h, length-all p kept)) (ap (λ x. x.live) e ∙ live))

-- an earlier live block ends before a later one starts
apart : (p : ℕ → Option PointerPiece) (kept : List KeptBlock) (next i j : ℕ) (d : KeptBlock) → IsSound p kept next → i < j → j < length kept → (get_or kept i d).live ≡ true → (get_or kept j d).live ≡ true → (get_or kept i d).start + (get_or kept i d).size + 16 ≤ (get_or kept j d).start
apart p kept next i j d sound h l one other =
    let e = seen-read p kept i (seen p d) d (omega (arith, h, l)) in
    let f = seen-read p kept j (seen p d) d l in
    subst (λ x. x.start + x.size + 16 ≤ (get_or kept j d).start) e
    (subst (λ y. (get_or (all_seen p kept) i (seen p d)).start + (get_or (all_seen p kept) i (seen p d)).size + 16 ≤ y.start) f
    (IsPlaced-apart (all_seen p kept) 65536 next (seen p d) i j sound.placed h (omega (arith, l, length-all p kept)) (ap (λ x. x.live) e ∙ one) (ap (λ x. x.live) f ∙ other)))

either_live : {P : Type 0} (t : Bool) → (t ≡ true → P) → (t ≡ false → P) → P
either_live true lives dead = lives refl
either_live false lives dead = dead refl

-- pieces are changed in the block alone
module _ (p q : ℕ → Option PointerPiece) (kept : List KeptBlock) (next i : ℕ) (b : KeptBlock) (sound : IsSound p kept next) (within : i < length kept) (is : b ≡ get_or kept i b) (live : b.live ≡ true) (elsewhere : (a : ℕ) → (a < b.start ⊎ b.start + b.size ≤ a) → q a ≡ p a) where
  here_live : (get_or kept i b).live ≡ true
  here_live = subst (λ x. x.live ≡ true) is live

  -- the pieces of another live block are the same
  pub in-other : (k : ℕ) → k < length kept → k ≢ i → (get_or kept k b).live ≡ true → (a : ℕ) → (get_or kept k b).start ≤ a → a < (get_or kept k b).start + (get_or kept k b).size → q a ≡ p a
  in-other k h n lives a low high = elim (cases_lt k i) [
    | inl l ↦
        let gap = apart p kept next k i b sound l within lives here_live in
        let start : b.start ≡ (get_or kept i b).start = ap (λ x. x.start) is in
        elsewhere a (inl (omega (arith, gap, start, high)))
    | inr m ↦ elim (cases_lt i k) [
      | inl l ↦
          let gap = apart p kept next i k b sound l h here_live lives in
          let start : b.start ≡ (get_or kept i b).start = ap (λ x. x.start) is in
          let size : b.size ≡ (get_or kept i b).size = ap (λ x. x.size) is in
          elsewhere a (inr (omega (arith, gap, start, size, low)))
      | inr l ↦ absurd (n (omega (arith, m, l)))
    ]
  ]

  pub seen-other : (k : ℕ) → k < length kept → k ≢ i → seen q (get_or kept k b) ≡ seen p (get_or kept k b)
  seen-other k h n =
      same-seen p q (get_or kept k b) (λ j l. either_live (get_or kept k b).live
      (λ lives. in-other k h n lives ((get_or kept k b).start + j) (omega arith) (omega (arith, l, sound.whole k b h)))
      (λ dead. let none = ap length (sound.gone k b h dead) in absurd (omega (arith, none, l))))

  -- no pieces stand from the next address on
  pub ahead-still : (a : ℕ) → next ≤ a → q a ≡ None
  ahead-still a h =
      let end = (placed-kept p kept next i b sound within here_live).1 in
      let start : b.start ≡ (get_or kept i b).start = ap (λ x. x.start) is in
      let size : b.size ≡ (get_or kept i b).size = ap (λ x. x.size) is in
      elsewhere a (inr (omega (arith, end, start, size, h))) ∙ sound.ahead a h

  -- all blocks, where the one is another
  pub all-set : (new : KeptBlock) → all_seen q (set kept i new) ≡ set (all_seen p kept) i (seen q new)
  all-set new = same_lists _ _ long each
    where
      long : length (all_seen q (set kept i new)) ≡ length (set (all_seen p kept) i (seen q new))
      long = length-all q (set kept i new) ∙ length-set kept i new ∙ sym (length-set (all_seen p kept) i (seen q new) ∙ length-all p kept)

      at_k : (k : ℕ) (d : MemoryBlock) → k < length kept → (k ≡ i) ⊎ (k ≢ i) → get_or (all_seen q (set kept i new)) k d ≡ get_or (set (all_seen p kept) i (seen q new)) k d
      at_k k d h (inl e) =
          seen-read q (set kept i new) k d b (omega (arith, h, length-set kept i new))
          ∙ ap (seen q) (ap (λ j. get_or (set kept i new) j b) e ∙ get_or-set_same kept i new b within)
          ∙ sym (ap (λ j. get_or (set (all_seen p kept) i (seen q new)) j d) e ∙ get_or-set_same (all_seen p kept) i (seen q new) d (omega (arith, within, length-all p kept)))
      at_k k d h (inr n) =
          seen-read q (set kept i new) k d b (omega (arith, h, length-set kept i new))
          ∙ ap (seen q) (get_or-set_other kept i k new b n)
          ∙ seen-other k h n
          ∙ sym (get_or-set_other (all_seen p kept) i k (seen q new) d n ∙ seen-read p kept k d b h)

      each : (k : ℕ) (d : MemoryBlock) → k < length (all_seen q (set kept i new)) → get_or (all_seen q (set kept i new)) k d ≡ get_or (set (all_seen p kept) i (seen q new)) k d
      each k d h = at_k k d (omega (arith, h, length-all q (set kept i new), length-set kept i new)) (cases_eq k i)

never : true ≡ false → ⊥
never e = cc

-- by cases at a block of the changed table
module _ (kept : List KeptBlock) (i : ℕ) (new : KeptBlock) (within : i < length kept) where
  pub by_cases : (P : KeptBlock → Type 0) (k : ℕ) (d : KeptBlock) → (k ≡ i → P new) → (k ≢ i → P (get_or kept k d)) → P (get_or (set kept i new) k d)
  by_cases P k d same other = elim (cases_eq k i) [
    | inl e ↦ subst P (sym (ap (λ j. get_or (set kept i new) j d) e ∙ get_or-set_same kept i new d within)) (same e)
    | inr n ↦ subst P (sym (get_or-set_other kept i k new d n)) (other n)
  ]

  pub inside : (k : ℕ) → k < length (set kept i new) → k < length kept
  inside k h = omega (arith, h, length-set kept i new)

-- new bytes are put in a range of a block, and pieces in that range alone
module _ (p q : ℕ → Option PointerPiece) (kept : List KeptBlock) (next : ℕ) (place : BlockPlace) (count : ℕ) (b : KeptBlock) (bytes : List (Option ℕ)) (mixed : Bool) (sound : IsSound p kept next) (room : IsRoom kept place count) (is : b ≡ get_or kept place.index b) (long : length bytes ≡ count) (elsewhere : (a : ℕ) → (a < b.start + place.offset ⊎ b.start + place.offset + count ≤ a) → q a ≡ p a) (clear : mixed ≡ false → (b.mixed ≡ false) × ((a : ℕ) → b.start + place.offset ≤ a → a < b.start + place.offset + count → q a ≡ None)) where
  abbrev new : KeptBlock
  new = record b { bytes = put place.offset bytes b.bytes; mixed = mixed }

  live : b.live ≡ true
  live = ap (λ x. x.live) is ∙ room.live b

  fits : place.offset + count ≤ b.size
  fits = subst (λ x. place.offset + count ≤ x.size) (sym is) (room.within b)

  whole : length b.bytes ≡ b.size
  whole = subst (λ x. length x.bytes ≡ x.size) (sym is) (sound.whole place.index b room.index)

  outside : (a : ℕ) → (a < b.start ⊎ b.start + b.size ≤ a) → q a ≡ p a
  outside a (inl h) = elsewhere a (inl (omega (arith, h)))
  outside a (inr h) = elsewhere a (inr (omega (arith, h, fits)))

  written-new : (cs : List Cell) → mapped_with_places (λ a x. over (q a) x) (b.start + place.offset) bytes ≡ cs → seen q new ≡ written place.offset cs (seen p b)
  written-new cs e =
      ap (λ xs. record { start = b.start; size = b.size; kind = b.kind; live = b.live; cells = xs })
      (placed-put (λ a x. over (p a) x) (λ a x. over (q a) x) b.start place.offset bytes b.bytes (omega (arith, long, fits, whole))
      (λ k x h. ap (λ o. over o x) (elsewhere (b.start + k) (inl (omega (arith, h)))))
      (λ k x h l. ap (λ o. over o x) (elsewhere (b.start + k) (inr (omega (arith, h, long)))))
      ∙ ap (λ ys. put place.offset ys (cells p b.start b.bytes)) e)

  pub seen-put : (cs : List Cell) → mapped_with_places (λ a x. over (q a) x) (b.start + place.offset) bytes ≡ cs → all_seen q (set kept place.index (record b { bytes = put place.offset bytes b.bytes; mixed = mixed })) ≡ changed place.index (written place.offset cs) (all_seen p kept)
  seen-put cs e =
      all-set p q kept next place.index b sound room.index is live outside new
      ∙ ap (λ x. set (all_seen p kept) place.index x) (written-new cs e)
      ∙ changed-set (written place.offset cs) (all_seen p kept) (seen p b) (written place.offset cs (seen p b)) place.index (let l = room.index in omega (arith, l, length-all p kept)) (ap (λ x. written place.offset cs x) (ap (seen p) is ∙ sym (seen-read p kept place.index (seen p b) b room.index)))

  long_put : length (put place.offset bytes b.bytes) ≡ b.size
  long_put = simp (length-append, length-take, length-drop) (omega (arith, long, fits, whole))

  old_unmixed : b.mixed ≡ false → (a : ℕ) → b.start ≤ a → a < b.start + b.size → p a ≡ None
  old_unmixed = subst (λ x. x.mixed ≡ false → (a : ℕ) → x.start ≤ a → a < x.start + x.size → p a ≡ None) (sym is) (sound.unmixed place.index b room.index)

  new_unmixed : mixed ≡ false → (a : ℕ) → b.start ≤ a → a < b.start + b.size → q a ≡ None
  new_unmixed m a low high = elim (cases_lt a (b.start + place.offset)) [
    | inl l ↦ elsewhere a (inl l) ∙ old_unmixed (clear m).0 a low high
    | inr g ↦ elim (cases_lt a (b.start + place.offset + count)) [
      | inl l ↦ (clear m).1 a g l
      | inr l ↦ elsewhere a (inr l) ∙ old_unmixed (clear m).0 a low high
    ]
  ]

  other_unmixed : (k : ℕ) → k < length kept → k ≢ place.index → (get_or kept k b).mixed ≡ false → (a : ℕ) → (get_or kept k b).start ≤ a → a < (get_or kept k b).start + (get_or kept k b).size → q a ≡ None
  other_unmixed k h n m a low high =
      either_live (get_or kept k b).live
      (λ lives. in-other p q kept next place.index b sound room.index is live outside k h n lives a low high ∙ sound.unmixed k b h m a low high)
      (λ dead. let none = ap length (sound.gone k b h dead) in absurd (omega (arith, none, low, high, sound.whole k b h)))

  pub sound-put : IsSound q (set kept place.index (record b { bytes = put place.offset bytes b.bytes; mixed = mixed })) next
  sound-put = record {
    placed = subst (λ bs. IsPlaced 65536 bs next) (sym (seen-put _ refl)) (IsPlaced-written place.index place.offset _ (all_seen p kept) 65536 next sound.placed);
    small = sound.small;
    whole = λ k d h. by_cases kept place.index new room.index (λ x. length x.bytes ≡ x.size) k d (λ e. long_put) (λ n. sound.whole k d (inside kept place.index new room.index k h));
    gone = λ k d h. by_cases kept place.index new room.index (λ x. x.live ≡ false → x.bytes ≡ []) k d (λ e dead. absurd (never (sym live ∙ dead))) (λ n. sound.gone k d (inside kept place.index new room.index k h));
    ahead = ahead-still p q kept next place.index b sound room.index is live outside;
    unmixed = λ k d h. by_cases kept place.index new room.index (λ x. x.mixed ≡ false → (a : ℕ) → x.start ≤ a → a < x.start + x.size → q a ≡ None) k d (λ e. new_unmixed) (λ n.
        let l = inside kept place.index new room.index k h in
        subst (λ x. x.mixed ≡ false → (a : ℕ) → x.start ≤ a → a < x.start + x.size → q a ≡ None) (get_or_default kept k b d l) (other_unmixed k l n));
  }

-- a block ends, and its pieces are removed
module _ (p q : ℕ → Option PointerPiece) (kept : List KeptBlock) (next i : ℕ) (b : KeptBlock) (sound : IsSound p kept next) (within : i < length kept) (is : b ≡ get_or kept i b) (live : b.live ≡ true) (elsewhere : (a : ℕ) → (a < b.start ⊎ b.start + b.size ≤ a) → q a ≡ p a) where
  pub seen-ended : all_seen q (set kept i ended_block) ≡ set (all_seen p kept) i gone
  seen-ended = all-set p q kept next i b sound within is live elsewhere ended_block

  placed_ended : IsPlaced 65536 (set (all_seen p kept) i gone) next
  placed_ended =
      subst (λ bs. IsPlaced 65536 bs next) (sym (changed-ended (all_seen p kept) i (seen p b) (omega (arith, within, length-all p kept)) (ap (seen p) is ∙ sym (seen-read p kept i (seen p b) b within))))
      (IsPlaced-ended i (all_seen p kept) 65536 next sound.placed)

  still_unmixed : (k : ℕ) → k < length kept → k ≢ i → (get_or kept k b).mixed ≡ false → (a : ℕ) → (get_or kept k b).start ≤ a → a < (get_or kept k b).start + (get_or kept k b).size → q a ≡ None
  still_unmixed k h n m a low high =
      either_live (get_or kept k b).live
      (λ lives. in-other p q kept next i b sound within is live elsewhere k h n lives a low high ∙ sound.unmixed k b h m a low high)
      (λ dead. let none = ap length (sound.gone k b h dead) in absurd (omega (arith, none, low, high, sound.whole k b h)))

  pub sound-ended : IsSound q (set kept i ended_block) next
  sound-ended = record {
    placed = subst (λ bs. IsPlaced 65536 bs next) (sym seen-ended) placed_ended;
    small = sound.small;
    whole = λ k d h. by_cases kept i ended_block within (λ x. length x.bytes ≡ x.size) k d (λ e. refl) (λ n. sound.whole k d (inside kept i ended_block within k h));
    gone = λ k d h. by_cases kept i ended_block within (λ x. x.live ≡ false → x.bytes ≡ []) k d (λ e dead. refl) (λ n. sound.gone k d (inside kept i ended_block within k h));
    ahead = ahead-still p q kept next i b sound within is live elsewhere;
    unmixed = λ k d h. by_cases kept i ended_block within (λ x. x.mixed ≡ false → (a : ℕ) → x.start ≤ a → a < x.start + x.size → q a ≡ None) k d (λ e m a low high. absurd (omega (arith, low, high))) (λ n.
        let l = inside kept i ended_block within k h in
        subst (λ x. x.mixed ≡ false → (a : ℕ) → x.start ≤ a → a < x.start + x.size → q a ≡ None) (get_or_default kept k b d l) (still_unmixed k l n));
  }

-- bytes of zeros without pieces
zero_cells : (p : ℕ → Option PointerPiece) (start size : ℕ) → ((a : ℕ) → start ≤ a → p a ≡ None) → cells p start (replicate size (Some 0)) ≡ replicate size (cell.Byte 0)
zero_cells p start size none =
    placed-same (λ a x. over (p a) x) (λ a x. plain x) start start (replicate size (Some 0)) (λ k x h. ap (λ o. over o x) (none (start + k) (omega arith)))
    ∙ placed-map plain start (replicate size (Some 0))
    ∙ zeros size
  where
    zeros : (n : ℕ) → map plain (replicate n (Some 0)) ≡ replicate n (cell.Byte 0)
    zeros zero = refl
    zeros (suc n) = ap (λ xs. cell.Byte 0 ∷ xs) (zeros n)

all-append : (p : ℕ → Option PointerPiece) (kept : List KeptBlock) (b : KeptBlock) → all_seen p (kept ++ b ∷ []) ≡ all_seen p kept ++ seen p b ∷ []
all-append p [] b = refl
all-append p (c ∷ kept) b = ap (λ xs. seen p c ∷ xs) (all-append p kept b)

-- a block is added behind all others
module _ (p : ℕ → Option PointerPiece) (kept : List KeptBlock) (next start size : ℕ) (kind : BlockKind) (sound : IsSound p kept next) (above : next ≤ start) (small : start + size + 16 < 2 ^ 62) where
  seen_fresh : seen p (fresh start size kind) ≡ new_block start size kind
  seen_fresh = ap (λ cs. record { start = start; size = size; kind = kind; live = true; cells = cs }) (zero_cells p start size (λ a h. sound.ahead a (omega (arith, h, above))))

  pub seen-added : all_seen p (kept ++ fresh start size kind ∷ []) ≡ all_seen p kept ++ new_block start size kind ∷ []
  seen-added = all-append p kept (fresh start size kind) ∙ ap (λ x. all_seen p kept ++ x ∷ []) seen_fresh

  at_last : (P : KeptBlock → Type 0) (k : ℕ) (d : KeptBlock) → k < length (kept ++ fresh start size kind ∷ []) → (k < length kept → P (get_or kept k d)) → P (fresh start size kind) → P (get_or (kept ++ fresh start size kind ∷ []) k d)
  at_last P k d h early late = elim (cases_lt k (length kept)) [
    | inl l ↦ subst P (sym (get_or_append_left kept (fresh start size kind ∷ []) d k l)) (early l)
    | inr g ↦
        let z : k - length kept ≡ 0 = omega (arith, g, h, length-append kept (fresh start size kind ∷ [])) in
        subst P (sym (get_or-append_right kept (fresh start size kind ∷ []) (length kept) k d refl g ∙ ap (λ n. get_or (fresh start size kind ∷ []) n d) z)) late
  ]

  pub sound-added : IsSound p (kept ++ fresh start size kind ∷ []) (start + size + 16)
  sound-added = record {
    placed = subst (λ bs. IsPlaced 65536 bs (start + size + 16)) (sym seen-added) (IsPlaced-push (all_seen p kept) (new_block start size kind) 65536 next sound.placed above);
    small = small;
    whole = λ k d h. at_last (λ x. length x.bytes ≡ x.size) k d h (sound.whole k d) (length-replicate size (Some 0));
    gone = λ k d h. at_last (λ x. x.live ≡ false → x.bytes ≡ []) k d h (sound.gone k d) (λ dead. absurd (never dead));
    ahead = λ a h. sound.ahead a (omega (arith, h, above));
    unmixed = λ k d h. at_last (λ x. x.mixed ≡ false → (a : ℕ) → x.start ≤ a → a < x.start + x.size → p a ≡ None) k d h (sound.unmixed k d) (λ m a low high. sound.ahead a (omega (arith, low, above)));
  }

pub set-read : (kept : List KeptBlock) (i : ℕ) (b : KeptBlock) → i < length kept → b ≡ get_or kept i b → set kept i b ≡ kept
set-read [] i b h is = absurd (omega (arith, h))
set-read (c ∷ kept) zero b h is = ap (λ x. x ∷ kept) is
set-read (c ∷ kept) (suc i) b h is = ap (λ xs. c ∷ xs) (set-read kept i b (omega (arith, h)) is)

pub set-set : (kept : List KeptBlock) (i : ℕ) (a b : KeptBlock) → set (set kept i a) i b ≡ set kept i b
set-set [] i a b = refl
set-set (c ∷ kept) zero a b = refl
set-set (c ∷ kept) (suc i) a b = ap (λ xs. c ∷ xs) (set-set kept i a b)

pub on_err : {T E : Type 0} (r : Result T E) (A : Type 0) → A → OnErr r A
on_err (Ok x) A a = tt
on_err (Err e) A a = a
