-- For `plain_bytes` of `Memory`: bytes that loads give, one at a time.
use Rattle.std.specs.Prelude.{◌≡◌, ℕ, ◌+◌, ⊤, List, [], ◌∷◌, Ok}
use Rattle.ir_eval.specs.declared.value.Pointer.{Pointer}
use Rattle.ir_eval.specs.declared.value.Scalar.TheVariants.{Int, Ptr}
use Rattle.ir_memory.specs.declared.leaf.Leaf.TheVariants as leaf
use Rattle.ir_memory.specs.Memory.{Blocks, loaded}

-- a load of one byte at the pointer gives the first of these, and one at each later address the next
abbrev pub LoadsBytes : Blocks → Pointer → List ℕ → Type 0
LoadsBytes m p [] = ⊤
LoadsBytes m p (byte ∷ bytes) = (loaded m (Ptr p) (leaf.Int 8) 1 ≡ Ok (Int byte)) × LoadsBytes m (record p { address = p.address + 1 }) bytes
