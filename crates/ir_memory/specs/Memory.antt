-- For all calls of `Memory`: blocks in the order of their addresses, and what each call does to them.
use Rattle.std.specs.Prelude.{ℕ, zero, suc, ◌+◌, ◌-◌, ◌*◌, ◌/◌, ◌%◌, ◌^◌, ◌≤◌, Bool, true, false, not, ◌&&◌, nat_eq, nat_lt, List, [], ◌∷◌, ◌++◌, Option, Some, None, Result, Ok, Err, is_none, position, slice_get, slice_range, replicate, if◌then◌else◌}
use Rattle.ir_eval.specs.declared.value.Pointer.{Pointer}
use Rattle.ir_eval.specs.declared.value.Scalar.{Scalar}
use Rattle.ir_eval.specs.declared.value.Scalar.TheVariants.{Int, Ptr, Poison}
use Rattle.ir_tables.specs.declared.undefined_kind.UndefinedKind.{UndefinedKind}
use Rattle.ir_tables.specs.declared.undefined_kind.UndefinedKind.TheVariants.{PoisonAddress, EndedBlock, OutsideBlock, WriteToConstant, Misaligned, Overlap, BadFree}
use Rattle.ir_memory.specs.declared.kind.BlockKind.{BlockKind}
use Rattle.ir_memory.specs.declared.leaf.Leaf.{Leaf}
use Rattle.ir_memory.specs.declared.cell.Cell.{Cell}
use Rattle.ir_memory.specs.declared.cell.Cell.TheVariants.{Byte}
use Rattle.ir_memory.specs.declared.access.BlockPlace.{BlockPlace}
use Rattle.ir_memory.specs.Cell.{size, read, leaf_cells}
use Rattle.ir_memory.specs.MemoryBlock.{is_constant, MemoryBlock, new_block, gone, holds, starts, written}
use Rattle.ir_memory.specs.declared.memory.TheConstants.{BYTE_LIMIT, FIRST_ADDRESS, GAP}

-- all blocks, and what is left of those that have ended; where the next one may start; whether constants are sealed
pub record Blocks : Type 0 where
  pub list : List MemoryBlock
  pub next : ℕ
  pub sealed : Bool

-- the first address that a block may have
abbrev pub first_address : ℕ
first_address = FIRST_ADDRESS

-- memory before any block is made
abbrev pub no_blocks : Blocks
no_blocks = record { list = []; next = first_address; sealed = false }

-- up to here a block may begin, wherever it ends and whatever its alignment
abbrev pub last_begin : ℕ
last_begin = 2 ^ 61

-- where all addresses of blocks end
abbrev pub addresses_end : ℕ
addresses_end = 2 ^ 62

-- so many addresses are free that a block can be placed at the next one
abbrev pub HasFreeAddresses : Blocks → Type 0
HasFreeAddresses m = m.next ≤ last_begin

-- how many bytes live blocks may have together
abbrev pub byte_limit : ℕ
byte_limit = BYTE_LIMIT

-- more than the greatest alignment and the gap have together
abbrev pub slack : ℕ
slack = 2 ^ 17

-- so far a block moves the next address at most: all bytes, the greatest alignment and the gap
abbrev pub reach : ℕ
reach = byte_limit + slack

-- how many bytes the live blocks have together
abbrev pub live_bytes : List MemoryBlock → ℕ
live_bytes [] = 0
live_bytes (b ∷ bs) = (if b.live then b.size else 0) + live_bytes bs

-- the least multiple that is not below
abbrev pub round_up : ℕ → ℕ → ℕ
round_up n align = (n + (align - 1)) / align * align

-- a block is placed at the next address rounded up, and the addresses of the gap are left free behind it
abbrev pub added : ℕ → ℕ → BlockKind → Blocks → Blocks
added size align kind m =
    let start = round_up m.next align in
    record m { list = m.list ++ new_block start size kind ∷ []; next = start + size + GAP }

-- the n-th block is changed
abbrev pub changed : ℕ → (MemoryBlock → MemoryBlock) → List MemoryBlock → List MemoryBlock
changed i f [] = []
changed zero f (b ∷ bs) = f b ∷ bs
changed (suc i) f (b ∷ bs) = b ∷ changed i f bs

-- the number of a block, where the block passes a test
abbrev pub number_where : ℕ → (MemoryBlock → Bool) → Option MemoryBlock → Option ℕ
number_where i test None = None
number_where i test (Some b) = if test b then Some i else None

-- the block that a pointer speaks of, where it passes a test: the pointer's own, else the first that passes
abbrev pub block_found : List MemoryBlock → (MemoryBlock → Bool) → Option ℕ → Option ℕ
block_found blocks test None = position test blocks
block_found blocks test (Some i) = number_where i test (slice_get blocks i)

-- the live block of that kind that the pointer starts
abbrev pub started : List MemoryBlock → Scalar → BlockKind → Option ℕ
started blocks (Int n) kind = None
started blocks Poison kind = None
started blocks (Ptr p) kind = block_found blocks (λ b. starts b p.address kind) p.block

-- the block of that number ends, if there is one
abbrev pub ended_at : Blocks → Option ℕ → Result Blocks UndefinedKind
ended_at m None = Err BadFree
ended_at m (Some i) = Ok (record m { list = changed i (λ b. gone) m.list })

-- that block ends, or there is none and the free is bad
abbrev pub ended : Scalar → BlockKind → Blocks → Result Blocks UndefinedKind
ended pointer kind m = ended_at m (started m.list pointer kind)

-- where a live block starts and ends
abbrev pub bounds_of : Option MemoryBlock → Option (ℕ × ℕ)
bounds_of None = None
bounds_of (Some b) = if b.live then Some (b.start, b.start + b.size) else None

-- where a pointer's live block starts and ends
abbrev pub bounds_at : List MemoryBlock → Option ℕ → Option (ℕ × ℕ)
bounds_at blocks None = None
bounds_at blocks (Some i) = bounds_of (slice_get blocks i)

-- the live block that holds so many bytes from the pointer on
abbrev pub home : List MemoryBlock → Pointer → ℕ → Option ℕ
home blocks p count = block_found blocks (λ b. b.live && holds b p.address count) p.block

-- a block has ended
abbrev pub is_over : Option MemoryBlock → Bool
is_over None = false
is_over (Some b) = not b.live

-- the pointer's own block has ended
abbrev pub has_ended : List MemoryBlock → Option ℕ → Bool
has_ended blocks None = false
has_ended blocks (Some i) = is_over (slice_get blocks i)

-- a block is a constant variable
abbrev pub is_fixed : Option MemoryBlock → Bool
is_fixed None = false
is_fixed (Some b) = is_constant b.kind

-- the block of that number is a constant variable
abbrev pub has_constant : List MemoryBlock → Option ℕ → Bool
has_constant blocks None = false
has_constant blocks (Some i) = is_fixed (slice_get blocks i)

-- how far an address lies behind its block's start
abbrev pub place_in : ℕ → ℕ → Option MemoryBlock → Option BlockPlace
place_in i address None = None
place_in i address (Some b) = Some (record { index = i; offset = address - b.start })

-- the place of an address in its block
abbrev pub place_at : List MemoryBlock → ℕ → Option ℕ → Option BlockPlace
place_at blocks address None = None
place_at blocks address (Some i) = place_in i address (slice_get blocks i)

-- the checks of an access, in their order; then the place of its first byte, and none where it has no bytes
abbrev pub access : Blocks → ℕ → ℕ → Bool → Scalar → Result (Option BlockPlace) UndefinedKind
access m count align writes (Int n) = Err PoisonAddress
access m count align writes Poison = Err PoisonAddress
access m count align writes (Ptr p) =
    if nat_eq count 0 then Ok None
    else (if has_ended m.list p.block then Err EndedBlock
    else (if is_none (home m.list p count) then Err OutsideBlock
    else (if writes && m.sealed && has_constant m.list (home m.list p count) then Err WriteToConstant
    else (if not (nat_eq (p.address % align) 0) then Err Misaligned
    else Ok (place_at m.list p.address (home m.list p count))))))

-- so many cells of a block
abbrev pub cells_of : ℕ → ℕ → Option MemoryBlock → List Cell
cells_of offset count None = []
cells_of offset count (Some b) = slice_range b.cells offset (offset + count)

-- so many cells from a place on
abbrev pub cells_at : List MemoryBlock → ℕ → Option BlockPlace → List Cell
cells_at blocks count None = []
cells_at blocks count (Some place) = cells_of place.offset count (slice_get blocks place.index)

-- cells are put at a place
abbrev pub put : Blocks → List Cell → Option BlockPlace → Blocks
put m cells None = m
put m cells (Some place) = record m { list = changed place.index (written place.offset cells) m.list }

-- the leaf at the place that an access gives
abbrev pub read_at : Blocks → Leaf → Result (Option BlockPlace) UndefinedKind → Result Scalar UndefinedKind
read_at m leaf (Err kind) = Err kind
read_at m leaf (Ok place) = Ok (read leaf (cells_at m.list (size leaf) place))

-- a load of a leaf
abbrev pub loaded : Blocks → Scalar → Leaf → ℕ → Result Scalar UndefinedKind
loaded m address leaf align = read_at m leaf (access m (size leaf) align false address)

-- cells are put at the place that an access gives
abbrev pub put_at : Blocks → List Cell → Result (Option BlockPlace) UndefinedKind → Result Blocks UndefinedKind
put_at m cells (Err kind) = Err kind
put_at m cells (Ok place) = Ok (put m cells place)

-- a store of a leaf
abbrev pub stored : Scalar → Leaf → ℕ → Scalar → Blocks → Result Blocks UndefinedKind
stored address leaf align value m = put_at m (leaf_cells leaf value) (access m (size leaf) align true address)

-- one byte in so many places
abbrev pub filled : Scalar → ℕ → ℕ → Blocks → Result Blocks UndefinedKind
filled to byte count m = put_at m (replicate count (Byte byte)) (access m count 1 true to)

-- two ranges of one block meet and are not equal
abbrev pub overlap : ℕ → Option BlockPlace → Option BlockPlace → Bool
overlap count None other = false
overlap count (Some one) None = false
overlap count (Some one) (Some other) =
    nat_eq one.index other.index && not (nat_eq one.offset other.offset)
    && nat_lt ((one.offset - other.offset) + (other.offset - one.offset)) count

-- the source is judged, then the target, then how they lie
abbrev pub copied_at : Blocks → ℕ → Bool → Result (Option BlockPlace) UndefinedKind → Result (Option BlockPlace) UndefinedKind → Result Blocks UndefinedKind
copied_at m count may_overlap (Err kind) target = Err kind
copied_at m count may_overlap (Ok source) (Err kind) = Err kind
copied_at m count may_overlap (Ok source) (Ok target) =
    if not may_overlap && overlap count source target then Err Overlap
    else Ok (put m (cells_at m.list count source) target)

-- a copy of so many cells; a copy of none does nothing
abbrev pub copied : Scalar → Scalar → ℕ → Bool → Blocks → Result Blocks UndefinedKind
copied to from count may_overlap m =
    if nat_eq count 0 then Ok m
    else copied_at m count may_overlap (access m count 1 false from) (access m count 1 true to)
