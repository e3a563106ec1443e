-- For all calls of `Memory`: what holds of memory at every moment.
use Rattle.std.specs.Prelude.{◌≡◌, ℕ, ◌+◌, ◌<◌, ◌≤◌, List, [], ◌∷◌, length, ⊤, true, if◌then◌else◌}
use Rattle.std.specs.List.{All}
use Rattle.ir_memory.specs.declared.cell.Cell.{Cell}
use Rattle.ir_memory.specs.declared.cell.Cell.TheVariants as cell
use Rattle.ir_memory.specs.declared.memory.TheConstants.{GAP}
use Rattle.ir_memory.specs.MemoryBlock.{MemoryBlock}
use Rattle.ir_memory.specs.Memory.{live_bytes, byte_limit, first_address, addresses_end}
use Rattle.ir_memory.specs.Given.{IsBlock}

-- where the next live block may start: the gap behind a live one
abbrev pub behind : ℕ → MemoryBlock → ℕ
behind from b = if b.live then b.start + b.size + GAP else from

-- live blocks stand in the order of their addresses, and those of the gap are free between two of them
abbrev pub IsPlaced : ℕ → List MemoryBlock → ℕ → Type 0
IsPlaced from [] next = from ≤ next
IsPlaced from (b ∷ bs) next = (b.live ≡ true → from ≤ b.start) × IsPlaced (behind from b) bs next

-- a piece is of a pointer whose block is one of the first so many
abbrev pub IsKnownCell : ℕ → Cell → Type 0
IsKnownCell count (cell.Piece p k) = IsBlock count p.block
IsKnownCell count (cell.Byte b) = ⊤
IsKnownCell count cell.Poison = ⊤

-- each piece in the blocks is so
abbrev pub AreKnown : ℕ → List MemoryBlock → Type 0
AreKnown count blocks = All (λ b. All (IsKnownCell count) b.cells) blocks

-- blocks are placed, so many bytes are live, and each piece is of a pointer whose block was made
abbrev pub IsKept : List MemoryBlock → ℕ → ℕ → Type 0
IsKept blocks next live = IsPlaced first_address blocks next × (live ≡ live_bytes blocks) × (live ≤ byte_limit) × (next < addresses_end) × AreKnown (length blocks) blocks
