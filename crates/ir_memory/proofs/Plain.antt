-- Accesses that few steps tell: the place of one, what is read there, and what is written.
use Rattle.std.proofs.Common.{◌≡◌, ◌∙◌, ℕ, ◌+◌, ◌-◌, ◌*◌, ◌/◌, ◌%◌, ◌^◌, ◌<◌, ◌≤◌, List, length, map, get_or, refl, ap, sym, subst, arith, Bool, true, false, not, ◌&&◌, Option, Some, None, Ok}
use Rattle.std.specs.Prelude.{is_some, nat_eq, slice_range, IfSome}
use Rattle.std.specs.List.{range_with_len}
use Rattle.std.proofs.Math.Nat.{mod-eq_of_lt}
use Rattle.std.proofs.lemmas.Bool.{le-leb}
use Rattle.std.proofs.lemmas.List.{get_or_default}
use Rattle.std.proofs.lemmas.List.Edits.{length-between}
use Rattle.std.proofs.lemmas.List.Elements.{All-map}
use Rattle.ir_eval.specs.declared.value.Pointer.{Pointer}
use Rattle.ir_eval.specs.declared.value.Scalar.TheVariants as scalar
use Rattle.ir_memory.specs.declared.pointers.piece.PointerPiece.{PointerPiece}
use Rattle.ir_memory.specs.Masked.Masked as masked
use Rattle.ir_memory.proofs.OnMasked.Numbers.{shift}
use Rattle.ir_memory.specs.declared.access.BlockPlace.{BlockPlace}
use Rattle.ir_memory.specs.declared.cell.Cell.TheVariants as cell
use Rattle.ir_memory.specs.declared.kept.KeptBlock.{KeptBlock}
use Rattle.ir_memory.specs.declared.leaf.Leaf.TheVariants as leaf
use Rattle.ir_memory.specs.MemoryBlock.{MemoryBlock, holds, is_constant, written}
use Rattle.ir_memory.specs.Cell.{byte_at, bytes, read}
use Rattle.ir_memory.specs.Memory.{Blocks, access, cells_at, changed, loaded, put_at, read_at, stored}
use Rattle.ir_memory.specs.Find.{IsOnly}
use Rattle.ir_memory.specs.Kept.{IsKept, IsKnownCell}
use Rattle.ir_memory.specs.Seen.{plain, seen, all_seen, of_number, IsRoom, IsSound}
use Rattle.ir_memory.proofs.Finds.{false_or_true, judged}
use Rattle.ir_memory.proofs.Known.{IsKept-written}
use Rattle.ir_memory.proofs.Places.{access-kept, live-there, read-placed-kept}
use Rattle.ir_memory.proofs.Writes.{cells-there, plain_cells, read-plain, room-bytes}

-- an integer of so many bytes
size-of : (count : ℕ) → (8 * count + 7) / 8 ≡ count
size-of count = omega arith

-- each check passes
pub judged-fine : (over outside fixed aligned : Bool) (place : BlockPlace) → over ≡ false → outside ≡ false → fixed ≡ false → aligned ≡ true → judged over outside fixed aligned place ≡ Ok (Some place)
judged-fine over outside fixed aligned place a b c d = λ k. judged (a k) (b k) (c k) (d k) place

-- what would not write to a constant if these were sealed does not write to a sealed one
free-of-any : (writes sealed constant : Bool) → (writes && true && constant) ≡ false → (writes && sealed && constant) ≡ false
free-of-any true true constant e = e
free-of-any true false constant e = refl
free-of-any false sealed constant e = refl

-- a block of the table, of which it is not known whether it lives
module _ (p : ℕ → Option PointerPiece) (kept : List KeptBlock) (next i : ℕ) (b : KeptBlock) (sound : IsSound p kept next) (within : i < length kept) (is : b ≡ get_or kept i b) where
  -- one that has ended has no bytes
  gone-empty : b.live ≡ false → b.size ≡ 0
  gone-empty e =
      let none = subst (λ x. x.live ≡ false → length x.bytes ≡ 0) (sym is) (λ e. ap length (sound.gone i b within e)) e in
      let whole = subst (λ x. length x.bytes ≡ x.size) (sym is) (sound.whole i b within) in
      sym whole ∙ none

  -- one that has bytes ends below 2^64
  pub end-small : 0 < b.size → b.start + b.size < 2 ^ 64
  end-small more =
      false_or_true b.live (b.start + b.size < 2 ^ 64)
      (λ live. let placed = (read-placed-kept p kept next i b sound within is live).1 in omega (arith, placed, sound.small))
      (λ over. absurd (omega (arith, gone-empty over, more)))

  module _ (pointer : Pointer) (count offset : ℕ) (of : pointer.block ≡ Some i) (some : 1 ≤ count) (there : b.start + offset ≡ pointer.address) (inside : offset + count ≤ b.size) where
    -- a block that has a byte lives
    lives : b.live ≡ true
    lives = false_or_true b.live (b.live ≡ true) (λ e. e) (λ over. absurd (omega (arith, gone-empty over, some, inside)))

    -- so the bytes are room for an access
    pub room-there : IsRoom kept (record { index = i; offset = offset }) count
    room-there = record {
      index = within;
      within = λ d. subst (λ x. offset + count ≤ x.size) (is ∙ get_or_default kept i b d within) inside;
      live = live-there kept i b within is lives;
    }

    module _ (later : ℕ) (sealed : Bool) (align : ℕ) (writes : Bool) (free : (writes && true && is_constant b.kind) ≡ false) (aligned : nat_eq (pointer.address % align) 0 ≡ true) where
      home : holds (seen p b) pointer.address count ≡ true
      home =
          let low : b.start ≤ pointer.address = omega (arith, there) in
          let high : pointer.address + count ≤ b.start + b.size = omega (arith, there, inside) in
          λ k. le-leb b.start pointer.address low k && le-leb (pointer.address + count) (b.start + b.size) high k

      -- and the access is in order, where it writes to no constant and is aligned
      pub access-there : access (record { list = all_seen p kept; next = later; sealed = sealed }) count align writes (scalar.Ptr pointer) ≡ Ok (Some (record { index = i; offset = offset }))
      access-there =
          let only : IsOnly (all_seen p kept) pointer.block pointer.address (Some i) = subst (λ o. IsOnly (all_seen p kept) o pointer.address (Some i)) (sym of) refl in
          let far : pointer.address - b.start ≡ offset = omega (arith, there) in
          access-kept p kept later sealed count align writes pointer i b some only within is
          ∙ judged-fine (not b.live && is_some pointer.block) (not (b.live && holds (seen p b) pointer.address count)) (writes && sealed && is_constant b.kind) (nat_eq (pointer.address % align) 0) (record { index = i; offset = pointer.address - b.start })
          (ap (λ t. not t && is_some pointer.block) lives) (λ k. not (lives k && home k)) (free-of-any writes sealed (is_constant b.kind) free) aligned
          ∙ ap (λ n. Ok (Some (record { index = i; offset = n }))) far

-- what is read at such a place, where no piece stands
module _ (p : ℕ → Option PointerPiece) (kept : List KeptBlock) (next : ℕ) (sealed : Bool) (place : BlockPlace) (b : KeptBlock) (count align : ℕ) (pointer : Pointer) (sound : IsSound p kept next) (room : IsRoom kept place count) (is : b ≡ get_or kept place.index b) (none : (a : ℕ) → b.start + place.offset ≤ a → a < b.start + place.offset + count → p a ≡ None) where
  abbrev blocks : Blocks
  blocks = record { list = all_seen p kept; next = next; sealed = sealed }

  abbrev there : List (Option ℕ)
  there = slice_range b.bytes place.offset (place.offset + count)

  cells-plain : cells_at (all_seen p kept) count (Some place) ≡ map plain there
  cells-plain =
      let within = room-bytes p kept next place count b sound room is in
      let l = length-between b.bytes place.offset (place.offset + count) within in
      let long : length there ≡ count = omega (arith, l) in
      cells-there p kept place count b room.index is ∙ plain_cells p (b.start + place.offset) count there long none

  -- the bytes spell the integer that a load gives
  pub loaded-there : (n : ℕ) → masked.number_of there ≡ Some n → n < 256 ^ count → access blocks count align false (scalar.Ptr pointer) ≡ Ok (Some place) → loaded blocks (scalar.Ptr pointer) (leaf.Int (8 * count)) align ≡ Ok (scalar.Int n)
  loaded-there n found fits acc =
      let less : n < 2 ^ (8 * count) = subst (λ power. n < power) (sym (shift count)) fits in
      ap (λ size. read_at blocks (leaf.Int (8 * count)) (access blocks size align false (scalar.Ptr pointer))) (size-of count)
      ∙ ap (read_at blocks (leaf.Int (8 * count))) acc
      ∙ ap Ok
      (ap (λ size. read (leaf.Int (8 * count)) (cells_at (all_seen p kept) size (Some place))) (size-of count)
      ∙ ap (read (leaf.Int (8 * count))) cells-plain
      ∙ sym (read-plain (leaf.Int (8 * count)) there)
      ∙ ap (of_number (leaf.Int (8 * count))) found
      ∙ ap scalar.Int (mod-eq_of_lt less))

  pub loads-there : (found : Option ℕ) → found ≡ masked.number_of there → IfSome found (λ n. n < 256 ^ count) → access blocks count align false (scalar.Ptr pointer) ≡ Ok (Some place)
      → IfSome found (λ n. loaded blocks (scalar.Ptr pointer) (leaf.Int (8 * count)) align ≡ Ok (scalar.Int n))
  loads-there None is fits acc = tt
  loads-there (Some n) is fits acc = loaded-there n (sym is) fits acc

-- what is written at such a place
pub stored-there : (m : Blocks) (place : BlockPlace) (count align number : ℕ) (pointer : Pointer) (new : List MemoryBlock) → access m count align true (scalar.Ptr pointer) ≡ Ok (Some place) → new ≡ changed place.index (written place.offset (bytes count number)) m.list
    → stored (scalar.Ptr pointer) (leaf.Int (8 * count)) align (scalar.Int number) m ≡ Ok (record m { list = new })
stored-there m place count align number pointer new acc is =
    ap (λ size. put_at m (bytes size number) (access m size align true (scalar.Ptr pointer))) (size-of count)
    ∙ ap (put_at m (bytes count number)) acc
    ∙ ap (λ blocks. Ok (record m { list = blocks })) (sym is)

pub IsKept-bytes : (bs : List MemoryBlock) (next live : ℕ) (place : BlockPlace) (count number : ℕ) → IsKept bs next live → IsKept (changed place.index (written place.offset (bytes count number)) bs) next live
IsKept-bytes bs next live place count number kept =
    IsKept-written bs next live place.index place.offset (bytes count number)
    (All-map (IsKnownCell (length bs)) (λ k. cell.Byte (byte_at number k)) (range_with_len 0 count) (λ k d lt. tt)) kept
