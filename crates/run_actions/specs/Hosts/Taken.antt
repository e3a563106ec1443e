-- Says how the code reads: the arguments that a host function looks at, and what copies and fills give.
use Rattle.std.specs.Prelude.{ℕ, ◌^◌, ◌<◌, ⊤, List, [], ◌∷◌, None}
use Rattle.std.specs.List.{AllZip}
use Rattle.ir_eval.specs.declared.value.Pointer.{Pointer}
use Rattle.ir_eval.specs.declared.value.Scalar.{Scalar}
use Rattle.ir_eval.specs.declared.value.Scalar.TheVariants.{Int, Ptr, Poison}
use Rattle.ir_memory.specs.MemoryBlock.{MemoryBlock}
use Rattle.ir_memory.specs.Given.{IsAddress}
use Rattle.ir_memory.specs.declared.leaf.Leaf.TheVariants as leaf
use Rattle.module_arena.specs.declared.host.HostRow.{HostRow}
use Rattle.module_arena.specs.declared.host.HostRow.TheVariants.{Putchar, Puts, Exit, Malloc, Free, Memcpy, Memmove, Memset, Strlen, MemcpyI64, MemmoveI64, MemsetI64, MemcpyI32, MemmoveI32, MemsetI32}
use Rattle.run_rules.specs.Host.{operand_at}
use Rattle.typed_runs.specs.Kinds.{IsOf}

-- the arguments that a row looks at are of their kinds, where so many blocks were made; where it looks at none, these may be any
abbrev pub AreTaken : HostRow → ℕ → List Scalar → Type 0
AreTaken Putchar count arguments = AllZip (IsOf count) (leaf.Int 32 ∷ []) arguments
AreTaken Puts count arguments = AllZip (IsOf count) (leaf.Ptr ∷ []) arguments
AreTaken Exit count arguments = AllZip (IsOf count) (leaf.Int 32 ∷ []) arguments
AreTaken Malloc count arguments = AllZip (IsOf count) (leaf.Int 64 ∷ []) arguments
AreTaken Free count arguments = AllZip (IsOf count) (leaf.Ptr ∷ []) arguments
AreTaken Memcpy count arguments = AllZip (IsOf count) (leaf.Ptr ∷ leaf.Ptr ∷ leaf.Int 64 ∷ []) arguments
AreTaken Memmove count arguments = AllZip (IsOf count) (leaf.Ptr ∷ leaf.Ptr ∷ leaf.Int 64 ∷ []) arguments
AreTaken Memset count arguments = AllZip (IsOf count) (leaf.Ptr ∷ leaf.Int 32 ∷ leaf.Int 64 ∷ []) arguments
AreTaken Strlen count arguments = AllZip (IsOf count) (leaf.Ptr ∷ []) arguments
AreTaken MemcpyI64 count arguments = AllZip (IsOf count) (leaf.Ptr ∷ leaf.Ptr ∷ leaf.Int 64 ∷ leaf.Int 1 ∷ []) arguments
AreTaken MemmoveI64 count arguments = AllZip (IsOf count) (leaf.Ptr ∷ leaf.Ptr ∷ leaf.Int 64 ∷ leaf.Int 1 ∷ []) arguments
AreTaken MemsetI64 count arguments = AllZip (IsOf count) (leaf.Ptr ∷ leaf.Int 8 ∷ leaf.Int 64 ∷ leaf.Int 1 ∷ []) arguments
AreTaken MemcpyI32 count arguments = AllZip (IsOf count) (leaf.Ptr ∷ leaf.Ptr ∷ leaf.Int 32 ∷ leaf.Int 1 ∷ []) arguments
AreTaken MemmoveI32 count arguments = AllZip (IsOf count) (leaf.Ptr ∷ leaf.Ptr ∷ leaf.Int 32 ∷ leaf.Int 1 ∷ []) arguments
AreTaken MemsetI32 count arguments = AllZip (IsOf count) (leaf.Ptr ∷ leaf.Int 8 ∷ leaf.Int 32 ∷ leaf.Int 1 ∷ []) arguments
AreTaken _ count arguments = ⊤

-- the number that a leaf is, and 0 where it is none
abbrev pub number_of : Scalar → ℕ
number_of (Int number) = number
number_of (Ptr pointer) = 0
number_of Poison = 0

-- the pointer that a leaf is, and null where it is none
abbrev pub pointer_of : Scalar → Pointer
pointer_of (Int number) = record { block = None; address = 0 }
pointer_of (Ptr pointer) = pointer
pointer_of Poison = record { block = None; address = 0 }

-- where to, where from, and how many bytes
abbrev pub AreCopied : List MemoryBlock → List Scalar → Type 0
AreCopied blocks arguments = IsAddress blocks (operand_at arguments 0) × IsAddress blocks (operand_at arguments 1) × (number_of (operand_at arguments 2) < 2 ^ 64)

-- where to, a number, and how many bytes
abbrev pub AreFilled : List MemoryBlock → List Scalar → Type 0
AreFilled blocks arguments = IsAddress blocks (operand_at arguments 0) × (number_of (operand_at arguments 2) < 2 ^ 64)

-- the functions of C give where they wrote, the intrinsics nothing
abbrev pub given : HostRow → List Scalar → List Scalar
given Memcpy arguments = operand_at arguments 0 ∷ []
given Memmove arguments = operand_at arguments 0 ∷ []
given Memset arguments = operand_at arguments 0 ∷ []
given _ arguments = []
