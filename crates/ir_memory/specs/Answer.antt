-- For `end_block`, `store`, `fill` and `copy` of `Memory`: what the answer of a call that changes memory says.
use Rattle.std.specs.Prelude.{◌≡◌, ⊤, length, IsOk, Result, Ok, Err}
use Rattle.ir_tables.specs.declared.undefined_kind.UndefinedKind.{UndefinedKind}
use Rattle.ir_memory.specs.declared.leaf.Leaf.{Leaf}
use Rattle.ir_memory.specs.declared.leaf.Leaf.TheVariants as leaf
use Rattle.ir_memory.specs.declared.fault.MemoryFault.{MemoryFault}
use Rattle.ir_memory.specs.declared.fault.MemoryFault.TheVariants.{Undefined, MemoryLimit, Memory}
use Rattle.ir_memory.specs.Memory.{Blocks}

-- Ok: memory is the expected one. Undefined: that is expected, and memory is unchanged. Want of memory: memory
-- is unchanged, and the call was not undefined. The limit on live bytes is never the answer
abbrev pub Answers : {T : Type 0} → Result Blocks UndefinedKind → Blocks → Blocks → Result T MemoryFault → Type 0
Answers expected old new (Ok x) = expected ≡ Ok new
Answers expected old new (Err (Undefined kind)) = (expected ≡ Err kind) × (new ≡ old)
Answers expected old new (Err Memory) = IsOk expected × (new ≡ old)
Answers expected old new (Err MemoryLimit) = ⊥

-- the call never wants memory
abbrev pub NeedsNone : {T : Type 0} → Result T MemoryFault → Type 0
NeedsNone (Ok x) = ⊤
NeedsNone (Err (Undefined kind)) = ⊤
NeedsNone (Err Memory) = ⊥
NeedsNone (Err MemoryLimit) = ⊤

-- the leaf is an integer
abbrev pub IsInteger : Leaf → Type 0
IsInteger (leaf.Int width) = ⊤
IsInteger leaf.Ptr = ⊥

-- no block is added, so what is known stays known, and later blocks come where they would have come
abbrev pub Keeps : Blocks → Blocks → Type 0
Keeps old new = (length new.list ≡ length old.list) × (new.next ≡ old.next)
