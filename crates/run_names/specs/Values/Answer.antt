-- For `load_value`, `store_value` and `push_string`: what the answer of such a call says.
use Rattle.std.specs.Prelude.{◌≡◌, ℕ, ◌<◌, ⊤, List, ◌++◌, Result, Ok, Err}
use Rattle.ir_tables.specs.declared.undefined_kind.UndefinedKind.{UndefinedKind}
use Rattle.ir_memory.specs.declared.fault.MemoryFault.{MemoryFault}
use Rattle.ir_memory.specs.declared.fault.MemoryFault.TheVariants.{Undefined, MemoryLimit, Memory}
use Rattle.ir_memory.specs.Memory.{Blocks}

-- Ok: the expected items are added. Undefined: that is expected, and nothing is added. Want of memory: nothing is added. The limit
-- on live bytes is never the answer
abbrev pub Loads : {A T : Type 0} → Result (List A) UndefinedKind → List A → List A → Result T MemoryFault → Type 0
Loads {A = A} expected old new (Ok done) = (items : List A) × (expected ≡ Ok items) × (new ≡ old ++ items)
Loads expected old new (Err (Undefined kind)) = (expected ≡ Err kind) × (new ≡ old)
Loads expected old new (Err Memory) = new ≡ old
Loads expected old new (Err MemoryLimit) = ⊥

-- Ok: memory is the expected one. Undefined: that is expected; what was written before stays written, which no run sees, for it
-- ends there. The limit on live bytes is never the answer
abbrev pub Stores : {T : Type 0} → Result Blocks UndefinedKind → Blocks → Result T MemoryFault → Type 0
Stores expected new (Ok done) = expected ≡ Ok new
Stores expected new (Err (Undefined kind)) = expected ≡ Err kind
Stores expected new (Err Memory) = ⊤
Stores expected new (Err MemoryLimit) = ⊥

-- why a call was refused: what was expected is undefined, or memory was wanted
abbrev pub IsRefusal : {A : Type 0} → Result A UndefinedKind → MemoryFault → Type 0
IsRefusal expected (Undefined kind) = expected ≡ Err kind
IsRefusal expected Memory = ⊤
IsRefusal expected MemoryLimit = ⊥

-- the same, where memory is wanted only if there was not that much room
abbrev pub WantsRoom : {A : Type 0} → Result A UndefinedKind → (room wanted : ℕ) → MemoryFault → Type 0
WantsRoom expected room wanted (Undefined kind) = expected ≡ Err kind
WantsRoom expected room wanted Memory = room < wanted
WantsRoom expected room wanted MemoryLimit = ⊥
