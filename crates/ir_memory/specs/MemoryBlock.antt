-- For all calls of `Memory`: one block of memory.
use Rattle.std.specs.Prelude.{ℕ, ◌+◌, Bool, true, false, ◌&&◌, nat_eq, nat_le, List, [], ◌++◌, take, drop, length, replicate}
use Rattle.ir_memory.specs.declared.kind.BlockKind.{BlockKind}
use Rattle.ir_memory.specs.declared.kind.BlockKind.TheVariants.{Variable, Stack, Heap}
use Rattle.ir_memory.specs.declared.cell.Cell.{Cell}
use Rattle.ir_memory.specs.declared.cell.Cell.TheVariants.{Byte}

-- one block: where it starts, how many bytes it has, what it is for, whether it lives, and its cells

-- where a block begins, how many bytes it has, of which kind it is, whether it is live, and its bytes
pub record MemoryBlock : Type 0 where
  pub start : ℕ
  pub size : ℕ
  pub kind : BlockKind
  pub live : Bool
  pub cells : List Cell

-- fresh memory is zero
abbrev pub new_block : ℕ → ℕ → BlockKind → MemoryBlock
new_block start size kind = record { start = start; size = size; kind = kind; live = true; cells = replicate size (Byte 0) }

-- what is left of a block that has ended: nothing of it is ever asked again
abbrev pub gone : MemoryBlock
gone = record { start = 0; size = 0; kind = Stack; live = false; cells = [] }

-- so many bytes from an address on are bytes of the block
abbrev pub holds : MemoryBlock → ℕ → ℕ → Bool
holds b address count = nat_le b.start address && nat_le (address + count) (b.start + b.size)

-- two kinds are the same
abbrev pub same_kind : BlockKind → BlockKind → Bool
same_kind (Variable true) (Variable true) = true
same_kind (Variable false) (Variable false) = true
same_kind Stack Stack = true
same_kind Heap Heap = true
same_kind _ _ = false

-- a live block of that kind starts at the address
abbrev pub starts : MemoryBlock → ℕ → BlockKind → Bool
starts b address kind = b.live && nat_eq b.start address && same_kind b.kind kind

-- new cells in place of as many
abbrev pub written : ℕ → List Cell → MemoryBlock → MemoryBlock
written at new b = record b { cells = take at b.cells ++ new ++ drop (at + length new) b.cells }

-- the block is a constant variable
abbrev pub is_constant : BlockKind → Bool
is_constant (Variable constant) = constant
is_constant Stack = false
is_constant Heap = false
