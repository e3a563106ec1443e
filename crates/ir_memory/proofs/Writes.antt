-- What is seen of bytes that are written: numbers, one byte, poison, pieces, and what was read elsewhere.
use Rattle.std.proofs.Common.{◌≡◌, ℕ, zero, suc, ◌+◌, ◌-◌, ◌<◌, ◌≤◌, ◌^◌, ◌⊎◌, inl, inr, set, List, [], ◌∷◌, length, map, replicate, get_or, refl, sym, ap, ◌∙◌, subst, arith, Bool, false, ◌||◌, take, Option, Some, None}
use Rattle.std.specs.Prelude.{◌≢◌, slice_range}
use Rattle.std.specs.List.{range_with_len}
use Rattle.std.proofs.lemmas.Bool.Decides.{nat_tests}
use Rattle.std.proofs.lemmas.Option.{slice_get-get_or}
use Rattle.std.proofs.lemmas.List.{length-take-le, get_or-take, get_or_default, get_or-set_other, same_lists, take_all}
use Rattle.std.proofs.lemmas.List.FromFn.{get_or-map-range_with_len}
use Rattle.std.proofs.lemmas.List.Edits.{length-between, get_or-between}
use Rattle.std.proofs.lemmas.Bool.{or_parts}
use Rattle.ir_eval.specs.declared.value.Pointer.{Pointer}
use Rattle.ir_memory.specs.declared.pointers.piece.PointerPiece.{PointerPiece}
use Rattle.ir_memory.specs.Pointers.Pieces.{without, with_pointer, with_moved}
use Rattle.ir_memory.specs.Masked.Masked.{mapped_with_places, put, digit}
use Rattle.ir_memory.specs.Masked.Masked as masked
use Rattle.ir_memory.proofs.OnMasked.Placed.{placed-same, placed-map, range-placed, length-placed, get_or-placed}
use Rattle.ir_memory.specs.declared.cell.Cell.{Cell}
use Rattle.ir_memory.specs.declared.cell.Cell.TheVariants as cell
use Rattle.ir_memory.specs.declared.kept.KeptBlock.{KeptBlock}
use Rattle.ir_memory.specs.declared.access.BlockPlace.{BlockPlace}
use Rattle.ir_memory.specs.declared.leaf.Leaf.{Leaf}
use Rattle.ir_memory.specs.declared.leaf.Leaf.TheVariants as leaf
use Rattle.ir_memory.specs.Cell.{bytes, pieces, read, number_of, byte_of, pointer_of, pointer, integer}
use Rattle.ir_memory.specs.MemoryBlock.{written}
use Rattle.ir_memory.specs.Memory.{changed, cells_at, cells_of}
use Rattle.ir_memory.specs.Seen.{over, plain, cells, seen, all_seen, IsRoom, IsSound, with_copied, of_number}
use Rattle.ir_memory.proofs.Changed.{length-all, seen-read, placed-kept, seen-put, sound-put, set-set}

-- pieces are gone in a range, and elsewhere as before
module _ (p q : ℕ → Option PointerPiece) (from to : ℕ) (are : (a : ℕ) → q a ≡ without from to p a) where
  pub none-within : (a : ℕ) → from ≤ a → a < to → q a ≡ None
  none-within a low high = are a ∙ grind (arith, nat_tests)

  pub same-without : (a : ℕ) → (a < from ⊎ to ≤ a) → q a ≡ p a
  same-without a (inl h) = are a ∙ grind (arith, nat_tests)
  same-without a (inr h) = are a ∙ grind (arith, nat_tests)

-- the pieces of a pointer stand in a range
module _ (p q : ℕ → Option PointerPiece) (from : ℕ) (pointer : Pointer) (are : (a : ℕ) → q a ≡ with_pointer from 8 pointer p a) where
  pub piece-within : (k : ℕ) → k < 8 → q (from + k) ≡ Some (record { pointer = pointer; place = k })
  piece-within k h =
      let place : from + k - from ≡ k = omega arith in
      let first : q (from + k) ≡ Some (record { pointer = pointer; place = from + k - from }) = are (from + k) ∙ grind (arith, nat_tests) in
      first ∙ ap (λ n. Some (record { pointer = pointer; place = n })) place

  pub same-beside : (a : ℕ) → (a < from ⊎ from + 8 ≤ a) → q a ≡ p a
  same-beside a (inl h) = are a ∙ grind (arith, nat_tests)
  same-beside a (inr h) = are a ∙ grind (arith, nat_tests)

-- pieces stand as in another range
module _ (p q : ℕ → Option PointerPiece) (to from count : ℕ) (are : (a : ℕ) → q a ≡ with_moved to from count p a) where
  pub moved-within : (k : ℕ) → k < count → q (to + k) ≡ p (from + k)
  moved-within k h =
      let place : from + (to + k - to) ≡ from + k = omega arith in
      let first : q (to + k) ≡ p (from + (to + k - to)) = are (to + k) ∙ grind (arith, nat_tests) in
      first ∙ ap p place

  pub same-around : (a : ℕ) → (a < to ⊎ to + count ≤ a) → q a ≡ p a
  same-around a (inl h) = are a ∙ grind (arith, nat_tests)
  same-around a (inr h) = are a ∙ grind (arith, nat_tests)

-- bytes without pieces
pub plain_cells : (q : ℕ → Option PointerPiece) (from count : ℕ) (bs : List (Option ℕ)) → length bs ≡ count → ((a : ℕ) → from ≤ a → a < from + count → q a ≡ None) → mapped_with_places (λ a x. over (q a) x) from bs ≡ map plain bs
plain_cells q from count bs long none =
    placed-same (λ a x. over (q a) x) (λ a x. plain x) from from bs (λ k x h. ap (λ o. over o x) (none (from + k) (omega arith) (omega (arith, h, long))))
    ∙ placed-map plain from bs

plain-map : (f : ℕ → ℕ) (ks : List ℕ) → map plain (map (λ k. Some (f k)) ks) ≡ map (λ k. cell.Byte (f k)) ks
plain-map f [] = refl
plain-map f (k ∷ ks) = ap (λ xs. cell.Byte (f k) ∷ xs) (plain-map f ks)

plain-replicate : (n : ℕ) (x : Option ℕ) → map plain (replicate n x) ≡ replicate n (plain x)
plain-replicate zero x = refl
plain-replicate (suc n) x = ap (λ xs. plain x ∷ xs) (plain-replicate n x)

pub cells-number : (q : ℕ → Option PointerPiece) (from count number : ℕ) → length (masked.bytes count number) ≡ count → ((a : ℕ) → from ≤ a → a < from + count → q a ≡ None) → mapped_with_places (λ a x. over (q a) x) from (masked.bytes count number) ≡ bytes count number
cells-number q from count number long none = plain_cells q from count (masked.bytes count number) long none ∙ plain-map (λ k. digit number k) (range_with_len 0 count)

pub cells-many : (q : ℕ → Option PointerPiece) (from count : ℕ) (x : Option ℕ) → length (replicate count x) ≡ count → ((a : ℕ) → from ≤ a → a < from + count → q a ≡ None) → mapped_with_places (λ a x. over (q a) x) from (replicate count x) ≡ replicate count (plain x)
cells-many q from count x long none = plain_cells q from count (replicate count x) long none ∙ plain-replicate count x

-- what a place alone gives
placed-range : {X Y : Type 0} (f : ℕ → Y) (k : ℕ) (xs : List X) → mapped_with_places (λ a x. f a) k xs ≡ map f (range_with_len k (length xs))
placed-range f k [] = refl
placed-range f k (x ∷ xs) = ap (λ ys. f k ∷ ys) (placed-range f (k + 1) xs)

pub cells-pointer : (q : ℕ → Option PointerPiece) (from : ℕ) (pointer : Pointer) (bs : List (Option ℕ)) → length bs ≡ 8 → ((k : ℕ) → k < 8 → q (from + k) ≡ Some (record { pointer = pointer; place = k })) → mapped_with_places (λ a x. over (q a) x) from bs ≡ pieces pointer
cells-pointer q from pointer bs long here =
    placed-same (λ a x. over (q a) x) (λ a x. cell.Piece pointer a) from 0 bs (λ k x h.
    let e : k ≡ 0 + k = omega arith in
    ap (λ o. over o x) (here k (omega (arith, h, long))) ∙ ap (λ n. cell.Piece pointer n) e)
    ∙ placed-range (λ k. cell.Piece pointer k) 0 bs
    ∙ ap (λ n. map (λ k. cell.Piece pointer k) (range_with_len 0 n)) long

-- cells that are read at a place
pub cells-within : (p : ℕ → Option PointerPiece) (kept : List KeptBlock) (place : BlockPlace) (count : ℕ) (b : KeptBlock) → place.index < length kept → b ≡ get_or kept place.index b → cells_at (all_seen p kept) count (Some place) ≡ slice_range (cells p b.start b.bytes) place.offset (place.offset + count)
cells-within p kept place count b within is =
    let there = slice_get-get_or (all_seen p kept) place.index (seen p b) (omega (arith, within, length-all p kept)) in
    let one = seen-read p kept place.index (seen p b) b within in
    ap (λ o. cells_of place.offset count o) (there ∙ ap Some (one ∙ ap (seen p) (sym is)))

pub cells-there : (p : ℕ → Option PointerPiece) (kept : List KeptBlock) (place : BlockPlace) (count : ℕ) (b : KeptBlock) → place.index < length kept → b ≡ get_or kept place.index b → cells_at (all_seen p kept) count (Some place) ≡ mapped_with_places (λ a x. over (p a) x) (b.start + place.offset) (slice_range b.bytes place.offset (place.offset + count))
cells-there p kept place count b within is =
    cells-within p kept place count b within is
    ∙ range-placed (λ a x. over (p a) x) b.start place.offset count b.bytes

pub cells-copied : (p q : ℕ → Option PointerPiece) (to from count : ℕ) (bs : List (Option ℕ)) → length bs ≡ count → ((k : ℕ) → k < count → q (to + k) ≡ p (from + k)) → mapped_with_places (λ a x. over (q a) x) to bs ≡ mapped_with_places (λ a x. over (p a) x) from bs
cells-copied p q to from count bs long same =
    placed-same (λ a x. over (q a) x) (λ a x. over (p a) x) to from bs (λ k x h. ap (λ o. over o x) (same k (omega (arith, h, long))))

-- a place that was judged
module _ (p : ℕ → Option PointerPiece) (kept : List KeptBlock) (next : ℕ) (place : BlockPlace) (count : ℕ) (b : KeptBlock) (sound : IsSound p kept next) (room : IsRoom kept place count) (is : b ≡ get_or kept place.index b) where
  room_size : place.offset + count ≤ b.size
  room_size = subst (λ x. place.offset + count ≤ x.size) (sym is) (room.within b)

  pub room-bytes : place.offset + count ≤ length b.bytes
  room-bytes = let whole = subst (λ x. length x.bytes ≡ x.size) (sym is) (sound.whole place.index b room.index) in omega (arith, whole, room_size)

  pub room-placed : b.start + place.offset + count + 16 ≤ next
  room-placed =
      let end = subst (λ x. x.start + x.size + 16 ≤ next) (sym is) (placed-kept p kept next place.index b sound room.index (room.live b)).1 in
      omega (arith, end, room_size)

  pub room-small : b.start + place.offset + count < 2 ^ 62
  room-small = let small = sound.small in omega (arith, small, room-placed)

  pub room-unmixed : b.mixed ≡ false → (a : ℕ) → b.start + place.offset ≤ a → a < b.start + place.offset + count → p a ≡ None
  room-unmixed m a low high =
      subst (λ x. x.mixed ≡ false → (a : ℕ) → x.start ≤ a → a < x.start + x.size → p a ≡ None) (sym is) (sound.unmixed place.index b room.index) m a (omega (arith, low)) (omega (arith, high, room_size))

-- bytes without pieces are put
module _ (p q : ℕ → Option PointerPiece) (kept : List KeptBlock) (next : ℕ) (place : BlockPlace) (count : ℕ) (b : KeptBlock) (bytes : List (Option ℕ)) (sound : IsSound p kept next) (room : IsRoom kept place count) (is : b ≡ get_or kept place.index b) (long : length bytes ≡ count) (are : (a : ℕ) → q a ≡ without (b.start + place.offset) (b.start + place.offset + count) p a) where
  pub seen-plain : (cs : List Cell) → mapped_with_places (λ a x. over (q a) x) (b.start + place.offset) bytes ≡ cs → all_seen q (set kept place.index (record b { bytes = put place.offset bytes b.bytes })) ≡ changed place.index (written place.offset cs) (all_seen p kept)
  seen-plain = seen-put p q kept next place count b bytes b.mixed sound room is long (same-without p q _ _ are) (λ m. (m, none-within p q _ _ are))

  pub sound-plain : IsSound q (set kept place.index (record b { bytes = put place.offset bytes b.bytes })) next
  sound-plain = sound-put p q kept next place count b bytes b.mixed sound room is long (same-without p q _ _ are) (λ m. (m, none-within p q _ _ are))

-- cells are read one by one
pub gathered : (p : ℕ → Option PointerPiece) (b : KeptBlock) (offset count : ℕ) (cs : List Cell) → count ≤ length cs → offset + count ≤ length b.bytes → ((j : ℕ) → j < count → get_or cs j cell.Poison ≡ over (p (b.start + (offset + j))) (get_or b.bytes (offset + j) None)) → take count cs ≡ slice_range (cells p b.start b.bytes) offset (offset + count)
gathered p b offset count cs enough within each =
    same_lists _ _ (long ∙ sym long_range) (λ k d h. let l : k < count = omega (arith, h, long) in
    get_or-take count cs k d l
    ∙ get_or_default cs k d cell.Poison (omega (arith, l, enough))
    ∙ each k l
    ∙ sym (get_or-between (cells p b.start b.bytes) offset (offset + count) k d (omega (arith, l)) ∙ get_or-placed (λ a x. over (p a) x) b.start b.bytes (offset + k) d None (omega (arith, l, within))))
  where
    long : length (take count cs) ≡ count
    long = length-take-le count cs enough

    long_range : length (slice_range (cells p b.start b.bytes) offset (offset + count)) ≡ count
    long_range =
        let l = length-between (cells p b.start b.bytes) offset (offset + count) (omega (arith, within, length-placed (λ a x. over (p a) x) b.start b.bytes)) in
        omega (arith, l)

-- what stands at one place is copied to another
module _ (p q : ℕ → Option PointerPiece) (kept : List KeptBlock) (next : ℕ) (target source : BlockPlace) (count : ℕ) (to from : KeptBlock) (sound : IsSound p kept next) (room : IsRoom kept target count) (there : IsRoom kept source count) (is : to ≡ get_or kept target.index to) (is_from : from ≡ get_or kept source.index from) (are : (a : ℕ) → q a ≡ with_moved (to.start + target.offset) (from.start + source.offset) count p a) where
  abbrev taken : List (Option ℕ)
  taken = slice_range from.bytes source.offset (source.offset + count)

  long_read : length taken ≡ count
  long_read = let l = length-between from.bytes source.offset (source.offset + count) (room-bytes p kept next source count from sound there is_from) in omega (arith, l)

  clear : (to.mixed || from.mixed) ≡ false → (to.mixed ≡ false) × ((a : ℕ) → to.start + target.offset ≤ a → a < to.start + target.offset + count → q a ≡ None)
  clear m = (
    (or_parts to.mixed from.mixed m).0,
    λ a low high.
        let k : a ≡ to.start + target.offset + (a - (to.start + target.offset)) = omega (arith, low) in
        let l : a - (to.start + target.offset) < count = omega (arith, low, high) in
        ap q k
        ∙ moved-within p q (to.start + target.offset) (from.start + source.offset) count are (a - (to.start + target.offset)) l
        ∙ room-unmixed p kept next source count from sound there is_from (or_parts to.mixed from.mixed m).1 (from.start + source.offset + (a - (to.start + target.offset))) (omega arith) (omega (arith, l)),
  )

  pub seen-copied : all_seen q (set kept target.index (with_copied target.offset (slice_range from.bytes source.offset (source.offset + count)) from.mixed to)) ≡ changed target.index (written target.offset (cells_at (all_seen p kept) count (Some source))) (all_seen p kept)
  seen-copied =
      seen-put p q kept next target count to taken (to.mixed || from.mixed) sound room is long_read (same-around p q _ _ count are) clear _
      (cells-copied p q (to.start + target.offset) (from.start + source.offset) count taken long_read (moved-within p q _ _ count are)
      ∙ sym (cells-there p kept source count from there.index is_from))

  pub sound-copied : IsSound q (set kept target.index (with_copied target.offset (slice_range from.bytes source.offset (source.offset + count)) from.mixed to)) next
  sound-copied = sound-put p q kept next target count to taken (to.mixed || from.mixed) sound room is long_read (same-around p q _ _ count are) clear

  -- as the code says it, with blocks that are read by one default
  pub copied-set : (new : List KeptBlock) → ((d : KeptBlock) → new ≡ set kept target.index (with_copied target.offset (slice_range (get_or kept source.index d).bytes source.offset (source.offset + count)) from.mixed (get_or kept target.index d))) → new ≡ set kept target.index (with_copied target.offset (slice_range from.bytes source.offset (source.offset + count)) from.mixed to)
  copied-set new says =
      says to
      ∙ ap (λ b. set kept target.index (with_copied target.offset (slice_range b.bytes source.offset (source.offset + count)) from.mixed (get_or kept target.index to))) (get_or_default kept source.index to from there.index ∙ sym is_from)
      ∙ ap (λ b. set kept target.index (with_copied target.offset (slice_range from.bytes source.offset (source.offset + count)) from.mixed b)) (sym is)

-- what a load gives where no piece stands
number-plain : (bs : List (Option ℕ)) → number_of (map plain bs) ≡ masked.number_of bs
number-plain [] = refl
number-plain (x ∷ xs) = ap (λ r. masked.joined (byte_of (plain x)) r) (number-plain xs) ∙ both x (masked.number_of xs)
  where
    both : (b r : Option ℕ) → masked.joined (byte_of (plain b)) r ≡ masked.joined b r
    both None r = refl
    both (Some b) None = refl
    both (Some b) (Some r) = refl

pointer-plain : (bs : List (Option ℕ)) → pointer_of (map plain bs) ≡ None
pointer-plain [] = refl
pointer-plain (None ∷ xs) = refl
pointer-plain (Some b ∷ xs) = refl

pub read-plain : (leaf : Leaf) (bs : List (Option ℕ)) → of_number leaf (masked.number_of bs) ≡ read leaf (map plain bs)
read-plain (leaf.Int width) bs = ap (integer width) (sym (number-plain bs))
read-plain leaf.Ptr bs = ap (pointer None) (sym (number-plain bs)) ∙ ap (λ p. pointer p (number_of (map plain bs))) (sym (pointer-plain bs))

-- the target's bytes are taken out of another block, changed and put back
pub put-back : (kept : List KeptBlock) (target source : BlockPlace) (count : ℕ) (mixed : Bool) (b a from new : KeptBlock) → target.index < length kept → source.index < length kept → source.index ≢ target.index → b ≡ get_or kept target.index b → from ≡ get_or (set kept target.index a) source.index from → new ≡ with_copied target.offset (slice_range from.bytes source.offset (source.offset + count)) mixed b → (d : KeptBlock) → set (set kept target.index a) target.index new ≡ set kept target.index (with_copied target.offset (slice_range (get_or kept source.index d).bytes source.offset (source.offset + count)) mixed (get_or kept target.index d))
put-back kept target source count mixed b a from new within there apart is is_from is_new d =
    set-set kept target.index a new
    ∙ ap (λ x. set kept target.index x)
    (is_new
    ∙ ap (λ x. with_copied target.offset (slice_range x.bytes source.offset (source.offset + count)) mixed b) (is_from ∙ get_or-set_other kept target.index source.index a from apart ∙ get_or_default kept source.index from d there)
    ∙ ap (λ x. with_copied target.offset (slice_range (get_or kept source.index d).bytes source.offset (source.offset + count)) mixed x) (is ∙ get_or_default kept target.index b d within))

-- the pieces of a pointer stand in order
pub pointer_gathered : (p : ℕ → Option PointerPiece) (b : KeptBlock) (offset : ℕ) (pointer : Pointer) → offset + 8 ≤ length b.bytes → ((k : ℕ) → k < 8 → p (b.start + offset + k) ≡ Some (record { pointer = pointer; place = k })) → pieces pointer ≡ slice_range (cells p b.start b.bytes) offset (offset + 8)
pointer_gathered p b offset pointer within each =
    let long : length (pieces pointer) ≡ 8 = refl in
    sym (take_all 8 (pieces pointer) (omega (arith, long)))
    ∙ gathered p b offset 8 (pieces pointer) (omega (arith, long)) within (λ j h.
    let same : b.start + offset + j ≡ b.start + (offset + j) = omega arith in
    get_or-map-range_with_len (λ k. cell.Piece pointer k) 0 8 j j cell.Poison h (omega arith)
    ∙ ap (λ (o : Option PointerPiece). over o (get_or b.bytes (offset + j) None)) (sym (each j h))
    ∙ ap (λ (a : ℕ). over (p a) (get_or b.bytes (offset + j) None)) same)
