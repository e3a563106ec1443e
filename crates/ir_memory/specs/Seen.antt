-- Says how the code reads: how blocks are kept, and how they are seen: bytes of which some are poison, under pieces of
-- pointers.
use Rattle.std.specs.Prelude.{◌≡◌, ℕ, ◌+◌, ◌<◌, ◌≤◌, List, [], length, map, replicate, Bool, true, false, ◌||◌, Option, Some, None, slice_index_or}
use Rattle.std.specs.Ordering.{nat_cmp}
use Rattle.std.specs.BTreeMap as tree
use Rattle.ir_memory.specs.declared.pointers.piece.PointerPiece.{PointerPiece}
use Rattle.ir_memory.specs.declared.pointers.pieces.Pieces.{Pieces}
use Rattle.ir_memory.specs.Pointers.Pieces.{at_slots}
use Rattle.ir_memory.specs.Masked.Masked.{mapped_with_places, put}
use Rattle.ir_memory.specs.declared.kind.BlockKind.{BlockKind}
use Rattle.ir_memory.specs.declared.kind.BlockKind.TheVariants.{Stack}
use Rattle.ir_memory.specs.declared.cell.Cell.{Cell}
use Rattle.ir_memory.specs.declared.cell.Cell.TheVariants as cell
use Rattle.ir_memory.specs.declared.kept.KeptBlock.{KeptBlock}
use Rattle.ir_eval.specs.declared.value.Scalar.{Scalar}
use Rattle.ir_memory.specs.declared.leaf.Leaf.{Leaf}
use Rattle.ir_memory.specs.declared.leaf.Leaf.TheVariants as leaf
use Rattle.ir_memory.specs.Cell.{integer, pointer}
use Rattle.ir_memory.specs.declared.access.BlockPlace.{BlockPlace}
use Rattle.ir_memory.specs.MemoryBlock.{MemoryBlock}
use Rattle.ir_memory.specs.Kept.{IsPlaced}
use Rattle.ir_memory.specs.Memory.{first_address, addresses_end}

-- the piece at an address
abbrev pub at : Pieces → ℕ → Option PointerPiece
at pieces = at_slots (tree.get nat_cmp pieces.slots)

-- a byte or poison as a cell
abbrev pub plain : Option ℕ → Cell
plain None = cell.Poison
plain (Some byte) = cell.Byte byte

-- a piece stands before the byte at its address
abbrev pub over : Option PointerPiece → Option ℕ → Cell
over None byte = plain byte
over (Some piece) byte = cell.Piece piece.pointer piece.place

-- bytes from an address on, under the pieces there
abbrev pub cells : (ℕ → Option PointerPiece) → ℕ → List (Option ℕ) → List Cell
cells pieces = mapped_with_places (λ address byte. over (pieces address) byte)

-- a block as all speak of it
abbrev pub seen : (ℕ → Option PointerPiece) → KeptBlock → MemoryBlock
seen pieces b = record { start = b.start; size = b.size; kind = b.kind; live = b.live; cells = cells pieces b.start b.bytes }

-- all blocks, as all speak of them
abbrev pub all_seen : (ℕ → Option PointerPiece) → List KeptBlock → List MemoryBlock
all_seen pieces = map (seen pieces)

-- a new block of zeros, without pieces
abbrev pub fresh : ℕ → ℕ → BlockKind → KeptBlock
fresh start size kind = record { start = start; size = size; kind = kind; live = true; bytes = replicate size (Some 0); mixed = false }

-- what is left of a block that has ended
abbrev pub ended_block : KeptBlock
ended_block = record { start = 0; size = 0; kind = Stack; live = false; bytes = []; mixed = false }

-- bytes are copied to a place of a block, and with them maybe pieces
abbrev pub with_copied : ℕ → List (Option ℕ) → Bool → KeptBlock → KeptBlock
with_copied offset bytes mixed b = record b { bytes = put offset bytes b.bytes; mixed = b.mixed || mixed }

-- what a load gives where no piece stands
abbrev pub of_number : Leaf → Option ℕ → Scalar
of_number (leaf.Int width) number = integer width number
of_number leaf.Ptr number = pointer None number

-- the block of that number is live
abbrev pub IsLiveAt : List KeptBlock → ℕ → Type 0
IsLiveAt kept index = (d : KeptBlock) → (slice_index_or kept index d).live ≡ true

-- so many bytes from a place on are bytes of a live block
pub record IsRoom (kept : List KeptBlock) (place : BlockPlace) (count : ℕ) : Type 0 where
  pub index : place.index < length kept
  pub within : (d : KeptBlock) → place.offset + count ≤ (slice_index_or kept place.index d).size
  pub live : IsLiveAt kept place.index

-- blocks are placed, each has as many bytes as its size, no piece stands from the next address on, and none where
-- a block is not marked as mixed
pub record IsSound (pieces : ℕ → Option PointerPiece) (kept : List KeptBlock) (next : ℕ) : Type 0 where
  pub placed : IsPlaced first_address (all_seen pieces kept) next
  pub small : next < addresses_end
  pub whole : (k : ℕ) (d : KeptBlock) → k < length kept → length (slice_index_or kept k d).bytes ≡ (slice_index_or kept k d).size
  pub gone : (k : ℕ) (d : KeptBlock) → k < length kept → (slice_index_or kept k d).live ≡ false → (slice_index_or kept k d).bytes ≡ []
  pub ahead : (q : ℕ) → next ≤ q → pieces q ≡ None
  pub unmixed : (k : ℕ) (d : KeptBlock) → k < length kept → (slice_index_or kept k d).mixed ≡ false
      → (q : ℕ) → (slice_index_or kept k d).start ≤ q → q < (slice_index_or kept k d).start + (slice_index_or kept k d).size
      → pieces q ≡ None
