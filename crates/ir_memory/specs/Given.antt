-- For all calls of `Memory`: what a caller may hand in.
use Rattle.std.specs.Prelude.{◌≡◌, ℕ, ◌<◌, ◌≤◌, ◌^◌, ⊤, List, length, Option, Some, None}
use Rattle.ir_tables.specs.declared.width.TheConstants.{WIDEST}
use Rattle.ir_eval.specs.declared.value.Pointer.{Pointer}
use Rattle.ir_eval.specs.declared.value.Scalar.{Scalar}
use Rattle.ir_eval.specs.declared.value.Scalar.TheVariants as scalar
use Rattle.ir_memory.specs.declared.leaf.Leaf.{Leaf}
use Rattle.ir_memory.specs.declared.leaf.Leaf.TheVariants as leaf
use Rattle.ir_memory.specs.declared.kind.BlockKind.{BlockKind}
use Rattle.ir_memory.specs.declared.kind.BlockKind.TheVariants as kind
use Rattle.ir_memory.specs.MemoryBlock.{MemoryBlock}

-- an integer has 1 to 128 bits
abbrev pub IsLeaf : Leaf → Type 0
IsLeaf (leaf.Int width) = (1 ≤ width) × (width ≤ WIDEST)
IsLeaf leaf.Ptr = ⊤

-- a power of two, at most 65,536
abbrev pub IsAlignment : ℕ → Type 0
IsAlignment align = (k : ℕ) × (k ≤ 16) × (align ≡ 2 ^ k)

-- the kinds of the blocks that a run ends
abbrev pub CanEnd : BlockKind → Type 0
CanEnd (kind.Variable constant) = ⊥
CanEnd kind.Stack = ⊤
CanEnd kind.Heap = ⊤

-- no block, or one of the first so many
abbrev pub IsBlock : ℕ → Option ℕ → Type 0
IsBlock count None = ⊤
IsBlock count (Some i) = i < count

-- the pointer has no block, or one that was made
abbrev pub IsKnown : List MemoryBlock → Pointer → Type 0
IsKnown blocks p = IsBlock (length blocks) p.block

-- a known pointer, or poison
abbrev pub IsAddress : List MemoryBlock → Scalar → Type 0
IsAddress blocks (scalar.Int number) = ⊥
IsAddress blocks (scalar.Ptr p) = IsKnown blocks p
IsAddress blocks scalar.Poison = ⊤

-- poison, or of the leaf's kind
abbrev pub Fits : Leaf → Scalar → Type 0
Fits leaf scalar.Poison = ⊤
Fits (leaf.Int width) (scalar.Int number) = number < 2 ^ width
Fits leaf.Ptr (scalar.Ptr p) = ⊤
Fits _ _ = ⊥

-- a pointer in the value is known
abbrev pub HasKnown : List MemoryBlock → Scalar → Type 0
HasKnown blocks (scalar.Ptr p) = IsKnown blocks p
HasKnown blocks (scalar.Int number) = ⊤
HasKnown blocks scalar.Poison = ⊤
