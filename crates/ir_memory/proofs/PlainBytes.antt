-- Bytes of a block that are read as they lie.
use Rattle.std.proofs.Common.{◌≡◌, ℕ, suc, ◌+◌, ◌-◌, ◌%◌, ◌^◌, ◌<◌, ◌≤◌, List, [], ◌∷◌, length, map, take, drop, get_or, refl, sym, ap, ◌∙◌, subst, arith, Bool, true, false, not, ◌&&◌, Option, Some, None, Ok, drop-cons, lit≤}
use Rattle.std.specs.Prelude.{slice_range, is_some, nat_eq, nat_le}
use Rattle.std.proofs.lemmas.Bool.{and_parts, le-leb, leb-true}
use Rattle.std.proofs.lemmas.List.{length-map, length-drop, drop-map}
use Rattle.ir_eval.specs.declared.value.Pointer.{Pointer}
use Rattle.ir_eval.specs.declared.value.Scalar.TheVariants as scalar
use Rattle.ir_memory.specs.declared.pointers.piece.PointerPiece.{PointerPiece}
use Rattle.ir_memory.specs.declared.access.BlockPlace.{BlockPlace}
use Rattle.ir_memory.specs.declared.cell.Cell.TheVariants as cell
use Rattle.ir_memory.specs.declared.kept.KeptBlock.{KeptBlock}
use Rattle.ir_memory.specs.declared.leaf.Leaf.TheVariants as leaf
use Rattle.ir_memory.specs.MemoryBlock.{holds, is_constant}
use Rattle.ir_memory.specs.Cell as cells
use Rattle.ir_memory.specs.Find.{IsOnly}
use Rattle.ir_memory.specs.Given.{IsKnown}
use Rattle.ir_memory.specs.Memory.{Blocks, access, cells_at, live_bytes, loaded, read_at}
use Rattle.ir_memory.specs.Plain.{LoadsBytes}
use Rattle.ir_memory.specs.Seen.{plain, seen, all_seen, IsSound}
use Rattle.ir_memory.proofs.Answering.{known-within}
use Rattle.ir_memory.proofs.Changed.{length-all}
use Rattle.ir_memory.proofs.Placed.{live_bytes-ended}
use Rattle.ir_memory.proofs.Places.{access-kept, read, read-placed-kept}
use Rattle.ir_memory.proofs.Writes.{cells-there, plain_cells}
use Rattle.ir_memory.proofs.Plain.{judged-fine}

-- a live block is not over, and an address between its ends is in it
not_over : (live own : Bool) → live ≡ true → (not live && own) ≡ false
not_over live own e = rw e refl

not_outside : (live low high : Bool) → live ≡ true → low ≡ true → high ≡ true → not (live && (low && high)) ≡ false
not_outside live low high e f g = rw (e, f, g) refl

abbrev place_of : ℕ → ℕ → BlockPlace
place_of index offset = record { index = index; offset = offset }

module _ (p : ℕ → Option PointerPiece) (kept : List KeptBlock) (next : ℕ) (sealed : Bool) (i : ℕ) (b : KeptBlock) (bs : List ℕ)
    (within : i < length kept) (is : b ≡ get_or kept i b) (live : b.live ≡ true) (whole : length b.bytes ≡ b.size)
    (clear : (q : ℕ) → b.start ≤ q → q < b.start + b.size → p q ≡ None) (are : b.bytes ≡ map (λ x. Some x) bs)
    (small : (k : ℕ) → get_or bs k 0 < 256) where
  abbrev m : Blocks
  m = record { list = all_seen p kept; next = next; sealed = sealed }

  -- so many bytes
  long : length bs ≡ b.size
  long = sym (length-map bs (λ x. Some x)) ∙ sym (ap length are) ∙ whole

  -- one byte is there
  there : (q : Pointer) (offset : ℕ) → q.block ≡ Some i → q.address ≡ b.start + offset → offset < b.size → access m 1 1 false (scalar.Ptr q) ≡ Ok (Some (place_of i offset))
  there q offset block here inside =
      let low : nat_le b.start q.address ≡ true = le-leb b.start q.address (omega (arith, here)) in
      let high : nat_le (q.address + 1) (b.start + b.size) ≡ true = le-leb (q.address + 1) (b.start + b.size) (omega (arith, here, inside)) in
      let only : IsOnly (all_seen p kept) q.block q.address (Some i) = subst (λ o. IsOnly (all_seen p kept) o q.address (Some i)) (sym block) refl in
      let rest : q.address % 1 ≡ 0 = omega arith in
      let from : q.address - b.start ≡ offset = omega (arith, here) in
      access-kept p kept next sealed 1 1 false q i b (lit≤ tt) only within is
      ∙ judged-fine (not b.live && is_some q.block) (not (b.live && holds (seen p b) q.address 1)) (false && sealed && is_constant b.kind) (nat_eq (q.address % 1) 0) (place_of i (q.address - b.start))
      (not_over b.live (is_some q.block) live) (not_outside b.live _ _ live low high) refl (ap (λ n. nat_eq n 0) rest)
      ∙ ap (λ n. Ok (Some (place_of i n))) from

  -- it is the only one of its range
  alone : (offset byte : ℕ) (rest : List ℕ) → drop offset bs ≡ byte ∷ rest → slice_range b.bytes offset (offset + 1) ≡ Some byte ∷ []
  alone offset byte rest e =
      let one : offset + 1 - offset ≡ 1 = omega arith in
      ap (λ xs. slice_range xs offset (offset + 1)) are
      ∙ ap (λ n. take n (drop offset (map (λ x. Some x) bs))) one
      ∙ ap (take 1) (drop-map (λ x. Some x) offset bs ∙ ap (map (λ x. Some x)) e)

  cell_there : (offset byte : ℕ) (rest : List ℕ) → drop offset bs ≡ byte ∷ rest → offset < b.size → cells_at (all_seen p kept) 1 (Some (place_of i offset)) ≡ cell.Byte byte ∷ []
  cell_there offset byte rest e inside =
      let only = alone offset byte rest e in
      cells-there p kept (place_of i offset) 1 b within is
      ∙ plain_cells p (b.start + offset) 1 (slice_range b.bytes offset (offset + 1)) (ap length only) (λ a low high. clear a (omega (arith, low)) (omega (arith, high, inside)))
      ∙ ap (map plain) only

  -- a load of one byte
  one_loaded : (q : Pointer) (offset byte : ℕ) (rest : List ℕ) → q.block ≡ Some i → q.address ≡ b.start + offset → drop offset bs ≡ byte ∷ rest → offset < b.size → byte < 256
      → loaded m (scalar.Ptr q) (leaf.Int 8) 1 ≡ Ok (scalar.Int byte)
  one_loaded q offset byte rest block here e inside fits =
      let low : (byte + 0) % 256 ≡ byte = omega (arith, fits) in
      ap (read_at m (leaf.Int 8)) (there q offset block here inside)
      ∙ ap (λ cs. Ok (cells.read (leaf.Int 8) cs)) (cell_there offset byte rest e inside)
      ∙ ap (λ n. Ok (scalar.Int n)) low

  -- all bytes from one on
  all_loaded : (q : Pointer) (offset : ℕ) (xs : List ℕ) → q.block ≡ Some i → q.address ≡ b.start + offset → drop offset bs ≡ xs → offset + length xs ≤ b.size → LoadsBytes m q xs
  all_loaded q offset [] block here e room = tt
  all_loaded q offset (x ∷ xs) block here e room =
      let inside : offset < length bs = omega (arith, length-drop offset bs, ap length e) in
      let split = drop-cons bs offset 0 inside in
      let first : get_or bs offset 0 ≡ x = cc (split, e) in
      let rest : drop (suc offset) bs ≡ xs = cc (split, e) in (
        one_loaded q offset x xs block here e (omega (arith, room)) (subst (λ n. n < 256) first (small offset)),
        all_loaded (record q { address = q.address + 1 }) (suc offset) xs block (omega (arith, here)) rest (omega (arith, room)),
      )

  -- the bytes from a pointer on
  from_pointer : (q : Pointer) → q.block ≡ Some i → b.start ≤ q.address → q.address ≤ b.start + b.size → LoadsBytes m q (drop (q.address - b.start) bs)
  from_pointer q block low high =
      all_loaded q (q.address - b.start) (drop (q.address - b.start) bs) block (omega (arith, low)) refl (omega (arith, length-drop (q.address - b.start) bs, long, low, high))

-- a pointer into a live block without pieces, whose bytes are none of them poison
module _ (p : ℕ → Option PointerPiece) (kept : List KeptBlock) (last : ℕ) (sound : IsSound p kept last) (pointer : Pointer) (i : ℕ) (b : KeptBlock) (bs : List ℕ)
    (known : IsKnown (all_seen p kept) pointer) (block : pointer.block ≡ Some i) (is : b ≡ get_or kept i b) (unmixed : b.mixed ≡ false)
    (home : (b.live && (nat_le b.start pointer.address && nat_le (pointer.address + 1) (b.start + b.size))) ≡ true) (are : b.bytes ≡ map (λ x. Some x) bs) where
  inside : i < length kept
  inside = known-within p kept pointer i known block

  lives : b.live ≡ true
  lives = (and_parts b.live (nat_le b.start pointer.address && nat_le (pointer.address + 1) (b.start + b.size)) home).0

  between : (nat_le b.start pointer.address ≡ true) × (nat_le (pointer.address + 1) (b.start + b.size) ≡ true)
  between = and_parts (nat_le b.start pointer.address) (nat_le (pointer.address + 1) (b.start + b.size)) (and_parts b.live (nat_le b.start pointer.address && nat_le (pointer.address + 1) (b.start + b.size)) home).1

  above : b.start ≤ pointer.address
  above = leb-true b.start pointer.address between.0

  below : pointer.address + 1 ≤ b.start + b.size
  below = leb-true (pointer.address + 1) (b.start + b.size) between.1

  sized : length b.bytes ≡ b.size
  sized = subst (λ (x : KeptBlock). length x.bytes ≡ x.size) (sym is) (sound.whole i b inside)

  counted : length bs ≡ b.size
  counted = sym (length-map bs (λ x. Some x)) ∙ sym (ap length are) ∙ sized

  bare : (q : ℕ) → b.start ≤ q → q < b.start + b.size → p q ≡ None
  bare =
      subst (λ (x : KeptBlock). (q : ℕ) → x.start ≤ q → q < x.start + x.size → p q ≡ None) (sym is)
      (sound.unmixed i b inside (subst (λ (x : KeptBlock). x.mixed ≡ false) is unmixed))

  -- it is no further behind the block's start than there are bytes
  pub offset_within : pointer.address - b.start ≤ length bs
  offset_within = omega (arith, counted, above, below)

  -- loads give the bytes from there on
  pub plain_loads : ((k : ℕ) → get_or bs k 0 < 256) → (next : ℕ) (sealed : Bool) → LoadsBytes (record { list = all_seen p kept; next = next; sealed = sealed }) pointer (drop (pointer.address - b.start) bs)
  plain_loads small next sealed = from_pointer p kept next sealed i b bs inside is lives sized bare are small pointer block above (omega (arith, below))

  -- whose addresses are below 2^64
  pub plain_ends : pointer.address + length (drop (pointer.address - b.start) bs) < 2 ^ 64
  plain_ends =
      let placed = read-placed-kept p kept last i b sound inside is lives in
      omega (arith, length-drop (pointer.address - b.start) bs, counted, above, below, placed.1, sound.small)

  -- and which are no more than live
  pub plain_few : length (drop (pointer.address - b.start) bs) ≤ live_bytes (all_seen p kept)
  plain_few =
      let there = read p kept i b inside is in
      let within : i < length (all_seen p kept) = omega (arith, inside, length-all p kept) in
      let live = live_bytes-ended (all_seen p kept) i (seen p b) within there (ap (λ x. x.live) (sym there) ∙ lives) in
      omega (arith, live, length-drop (pointer.address - b.start) bs, counted)
