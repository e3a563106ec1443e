-- For all calls of `Pieces`: the pieces of pointers as a function from addresses, how slots keep them, and what each call
-- makes of it.
use Rattle.std.specs.Prelude.{ℕ, ◌+◌, ◌-◌, ◌/◌, ◌%◌, Bool, ◌&&◌, nat_le, nat_lt, Option, Some, None, slice_index_or, if◌then◌else◌}
use Rattle.ir_eval.specs.declared.value.Pointer.{Pointer}
use Rattle.ir_memory.specs.declared.pointers.piece.PointerPiece.{PointerPiece}
use Rattle.ir_memory.specs.declared.pointers.slot.PieceSlot.{PieceSlot}

-- the piece at a place of a slot
abbrev pub piece_in : Option PieceSlot → ℕ → Option PointerPiece
piece_in None k = None
piece_in (Some s) k = slice_index_or s.pieces k None

-- the piece at an address, where each slot has those of eight addresses
unfoldable pub at_slots : (ℕ → Option PieceSlot) → ℕ → Option PointerPiece
at_slots slots q = piece_in (slots (q / 8)) (q % 8)

-- an address is one of a range
abbrev pub is_within : ℕ → ℕ → ℕ → Bool
is_within from to q = nat_le from q && nat_lt q to

-- in a range the ones, elsewhere the others
abbrev pub within_or : ℕ → ℕ → (ℕ → Option PointerPiece) → (ℕ → Option PointerPiece) → ℕ → Option PointerPiece
within_or from to ones others q = if is_within from to q then ones q else others q

-- a range has no piece
abbrev pub without : ℕ → ℕ → (ℕ → Option PointerPiece) → ℕ → Option PointerPiece
without from to pieces q = if is_within from to q then None else pieces q

-- from an address on stand the first so many pieces of a pointer
abbrev pub with_pointer : ℕ → ℕ → Pointer → (ℕ → Option PointerPiece) → ℕ → Option PointerPiece
with_pointer at count p pieces q = if is_within at (at + count) q then Some (record { pointer = p; place = q - at }) else pieces q

-- the pieces of one range, as they stand in another
abbrev pub shifted : ℕ → ℕ → ℕ → (ℕ → Option PointerPiece) → ℕ → Option PointerPiece
shifted to from count pieces q = if is_within to (to + count) q then pieces (from + (q - to)) else None

-- one range has what stands in another
abbrev pub with_moved : ℕ → ℕ → ℕ → (ℕ → Option PointerPiece) → ℕ → Option PointerPiece
with_moved to from count pieces q = if is_within to (to + count) q then pieces (from + (q - to)) else pieces q
