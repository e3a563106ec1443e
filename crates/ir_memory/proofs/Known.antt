-- Each piece in memory is of a pointer whose block was made.
use Rattle.std.proofs.Common.{◌≡◌, ℕ, zero, suc, ◌+◌, ◌≤◌, List, [], ◌∷◌, ◌++◌, length, set, take, drop, subst, refl, sym, ap, ◌∙◌, arith, Option, Some, None, Bool, true, false}
use Rattle.std.specs.Prelude.{slice_get, replicate, if◌then◌else◌}
use Rattle.std.specs.List.{range_with_len}
use Rattle.std.specs.List.{All}
use Rattle.std.proofs.lemmas.List.{length-set}
use Rattle.std.proofs.lemmas.List.Elements.{All-nil, All-cons, All-head, All-tail, All-replicate, All-append, All-push, All-set, All-weaker, All-take, All-drop, All-map}
use Rattle.ir_eval.specs.declared.value.Scalar.{Scalar}
use Rattle.ir_eval.specs.declared.value.Scalar.TheVariants as scalar
use Rattle.ir_memory.specs.declared.leaf.Leaf.{Leaf}
use Rattle.ir_memory.specs.declared.leaf.Leaf.TheVariants as leaf
use Rattle.ir_memory.specs.declared.kind.BlockKind.{BlockKind}
use Rattle.ir_memory.specs.declared.cell.Cell.{Cell}
use Rattle.ir_memory.specs.declared.cell.Cell.TheVariants as cell
use Rattle.ir_memory.specs.declared.access.BlockPlace.{BlockPlace}
use Rattle.ir_memory.specs.MemoryBlock.{MemoryBlock, new_block, gone, written}
use Rattle.ir_memory.specs.Cell.{size, leaf_cells, byte_at, read, pointer_of, pointer, are_pieces, integer, number_of}
use Rattle.ir_memory.specs.Memory.{changed, cells_at, cells_of}
use Rattle.ir_memory.specs.Kept.{IsKnownCell, AreKnown, IsKept}
use Rattle.ir_memory.proofs.Placed.{IsPlaced-written, live_bytes-written}
use Rattle.ir_memory.specs.Given.{IsBlock, HasKnown}

-- what is known stays known
pub IsBlock-more : (count more : ℕ) (b : Option ℕ) → count ≤ more → IsBlock count b → IsBlock more b
IsBlock-more count more None h k = tt
IsBlock-more count more (Some i) h k = omega (arith, h, k)

pub IsKnownCell-more : (count more : ℕ) → count ≤ more → (c : Cell) → IsKnownCell count c → IsKnownCell more c
IsKnownCell-more count more h (cell.Piece p k) known = IsBlock-more count more p.block h known
IsKnownCell-more count more h (cell.Byte b) known = tt
IsKnownCell-more count more h cell.Poison known = tt

pub AreKnown-more : (count more : ℕ) (bs : List MemoryBlock) → count ≤ more → AreKnown count bs → AreKnown more bs
AreKnown-more count more bs h known =
    All-weaker (λ b. All (IsKnownCell count) b.cells) (λ b. All (IsKnownCell more) b.cells)
    (λ b cells. All-weaker (IsKnownCell count) (IsKnownCell more) (IsKnownCell-more count more h) b.cells cells) bs known

-- a block of zeros is added
pub AreKnown-added : (bs : List MemoryBlock) (start size : ℕ) (kind : BlockKind) (count more : ℕ) → count ≤ more → AreKnown count bs → AreKnown more (bs ++ new_block start size kind ∷ [])
AreKnown-added bs start size kind count more h known =
    All-push (λ b. All (IsKnownCell more) b.cells) bs (new_block start size kind) (AreKnown-more count more bs h known)
    (All-replicate (IsKnownCell more) size (cell.Byte 0) tt)

-- a block ends
pub AreKnown-ended : (bs : List MemoryBlock) (i : ℕ) → AreKnown (length bs) bs → AreKnown (length (set bs i gone)) (set bs i gone)
AreKnown-ended bs i known =
    subst (λ n. AreKnown n (set bs i gone)) (sym (length-set bs i gone))
    (All-set (λ b. All (IsKnownCell (length bs)) b.cells) bs i gone (All-nil (IsKnownCell (length bs))) known)

-- cells are written
pub AreKnown-written : (count i at : ℕ) (new : List Cell) (bs : List MemoryBlock) → All (IsKnownCell count) new → AreKnown count bs → AreKnown count (changed i (written at new) bs)
AreKnown-written count i at new [] cells known = known
AreKnown-written count zero at new (b ∷ bs) cells known =
    let old = All-head (λ b. All (IsKnownCell count) b.cells) b bs known in
    All-cons (λ b. All (IsKnownCell count) b.cells) (written at new b) bs
    (All-append (IsKnownCell count) (take at b.cells ++ new) (drop (at + length new) b.cells)
    (All-append (IsKnownCell count) (take at b.cells) new (All-take (IsKnownCell count) at b.cells old) cells)
    (All-drop (IsKnownCell count) (at + length new) b.cells old))
    (All-tail (λ b. All (IsKnownCell count) b.cells) b bs known)
AreKnown-written count (suc i) at new (b ∷ bs) cells known =
    All-cons (λ b. All (IsKnownCell count) b.cells) b (changed i (written at new) bs)
    (All-head (λ b. All (IsKnownCell count) b.cells) b bs known)
    (AreKnown-written count i at new bs cells (All-tail (λ b. All (IsKnownCell count) b.cells) b bs known))

pub length-changed : (i : ℕ) (f : MemoryBlock → MemoryBlock) (bs : List MemoryBlock) → length (changed i f bs) ≡ length bs
length-changed i f [] = refl
length-changed zero f (b ∷ bs) = refl
length-changed (suc i) f (b ∷ bs) = ap suc (length-changed i f bs)

-- what a store writes
pub known-spelled : (bs : List MemoryBlock) (leaf : Leaf) (value : Scalar) → HasKnown bs value → All (IsKnownCell (length bs)) (leaf_cells leaf value)
known-spelled bs leaf scalar.Poison known = All-replicate (IsKnownCell (length bs)) (size leaf) cell.Poison tt
known-spelled bs leaf (scalar.Int number) known =
    All-map (IsKnownCell (length bs)) (λ k. cell.Byte (byte_at number k)) (range_with_len 0 (size leaf)) (λ k d lt. tt)
known-spelled bs leaf (scalar.Ptr p) known =
    All-map (IsKnownCell (length bs)) (λ k. cell.Piece p k) (range_with_len 0 8) (λ k d lt. known)

-- what is read
known-pointer_of : (bs : List MemoryBlock) (cells : List Cell) (number : Option ℕ) → All (IsKnownCell (length bs)) cells → HasKnown bs (pointer (pointer_of cells) number)
known-pointer_of bs [] None known = tt
known-pointer_of bs [] (Some n) known = tt
known-pointer_of bs (cell.Byte b ∷ cs) None known = tt
known-pointer_of bs (cell.Byte b ∷ cs) (Some n) known = tt
known-pointer_of bs (cell.Poison ∷ cs) None known = tt
known-pointer_of bs (cell.Poison ∷ cs) (Some n) known = tt
known-pointer_of bs (cell.Piece p k ∷ cs) number known = whole (are_pieces p 0 (cell.Piece p k ∷ cs)) number
  where
    whole : (t : Bool) (number : Option ℕ) → HasKnown bs (pointer (if t then Some p else None) number)
    whole true number = All-head (IsKnownCell (length bs)) (cell.Piece p k) cs known
    whole false None = tt
    whole false (Some n) = tt

pub known-read : (bs : List MemoryBlock) (leaf : Leaf) (cells : List Cell) → All (IsKnownCell (length bs)) cells → HasKnown bs (read leaf cells)
known-read bs (leaf.Int width) cells known = known-integer (number_of cells)
  where
    known-integer : (number : Option ℕ) → HasKnown bs (integer width number)
    known-integer None = tt
    known-integer (Some n) = tt
known-read bs leaf.Ptr cells known = known-pointer_of bs cells (number_of cells) known

-- what is copied
pub known-cells_of : (count n at : ℕ) (bs : List MemoryBlock) (i : ℕ) → AreKnown count bs → All (IsKnownCell count) (cells_of at n (slice_get bs i))
known-cells_of count n at [] i known = All-nil (IsKnownCell count)
known-cells_of count n at (b ∷ bs) zero known =
    All-take (IsKnownCell count) _ _ (All-drop (IsKnownCell count) at b.cells (All-head (λ b. All (IsKnownCell count) b.cells) b bs known))
known-cells_of count n at (b ∷ bs) (suc i) known = known-cells_of count n at bs i (All-tail (λ b. All (IsKnownCell count) b.cells) b bs known)

-- a write of known cells keeps all that holds of memory
pub IsKept-written : (bs : List MemoryBlock) (next live i at : ℕ) (new : List Cell) → All (IsKnownCell (length bs)) new → IsKept bs next live → IsKept (changed i (written at new) bs) next live
IsKept-written bs next live i at new cells kept = (
  IsPlaced-written i at new bs 65536 next kept.0,
  kept.1 ∙ sym (live_bytes-written i at new bs),
  kept.2,
  kept.3,
  subst (λ n. AreKnown n (changed i (written at new) bs)) (sym (length-changed i (written at new) bs)) (AreKnown-written (length bs) i at new bs cells kept.4),
)

pub IsKept-stored : (bs : List MemoryBlock) (next live : ℕ) (place : BlockPlace) (leaf : Leaf) (value : Scalar) → HasKnown bs value → IsKept bs next live → IsKept (changed place.index (written place.offset (leaf_cells leaf value)) bs) next live
IsKept-stored bs next live place leaf value known kept =
    IsKept-written bs next live place.index place.offset (leaf_cells leaf value) (known-spelled bs leaf value known) kept

pub IsKept-filled : (bs : List MemoryBlock) (next live : ℕ) (place : BlockPlace) (count byte : ℕ) → IsKept bs next live → IsKept (changed place.index (written place.offset (replicate count (cell.Byte byte))) bs) next live
IsKept-filled bs next live place count byte kept =
    IsKept-written bs next live place.index place.offset _ (All-replicate (IsKnownCell (length bs)) count (cell.Byte byte) tt) kept

pub IsKept-copied : (bs : List MemoryBlock) (next live : ℕ) (target source : BlockPlace) (count : ℕ) → IsKept bs next live → IsKept (changed target.index (written target.offset (cells_at bs count (Some source))) bs) next live
IsKept-copied bs next live target source count kept =
    IsKept-written bs next live target.index target.offset _ (known-cells_of (length bs) count source.offset bs source.index kept.4) kept

pub ruleset count_steps = (length-changed)
