-- For `equal_look_ups_give_equal_runs`: whole values in memory. A value is loaded and stored leaf by leaf, in order, and padding is
-- left alone. The first leaf is accessed with the alignment of the instruction, the others with alignment 1.
use Rattle.std.specs.Prelude.{ℕ, zero, suc, ◌+◌, ◌%◌, ◌^◌, Bool, nat_le, List, [], ◌∷◌, length, Result, Ok, Err, Some}
use Rattle.ir_tables.specs.declared.undefined_kind.UndefinedKind.{UndefinedKind}
use Rattle.ir_tables.specs.declared.undefined_kind.UndefinedKind.TheVariants.{PoisonAddress, PoisonArgument, OutsideBlock}
use Rattle.ir_eval.specs.declared.value.Pointer.{Pointer}
use Rattle.ir_eval.specs.declared.value.Scalar.{Scalar}
use Rattle.ir_eval.specs.declared.value.Scalar.TheVariants.{Int, Ptr, Poison}
use Rattle.ir_memory.specs.declared.kind.BlockKind.TheVariants.{Stack}
use Rattle.ir_memory.specs.declared.leaf.Leaf.TheVariants as leaf
use Rattle.ir_memory.specs.Memory.{Blocks, loaded, stored, ended, live_bytes, byte_limit, round_up}
use Rattle.run_rules.specs.Leaves.{Slot}

-- goes on with what is there, unless something was undefined
abbrev pub and_then : {A B E : Type 0} → Result A E → (A → Result B E) → Result B E
and_then (Ok x) f = f x
and_then (Err e) f = Err e

-- one more in front of those that are there, unless something was undefined; the first that was is told
abbrev pub in_front : {A E : Type 0} → Result A E → Result (List A) E → Result (List A) E
in_front (Err e) rest = Err e
in_front (Ok x) (Err e) = Err e
in_front (Ok x) (Ok xs) = Ok (x ∷ xs)

-- so many bytes further on; the block stays
abbrev pub behind : Pointer → ℕ → Pointer
behind p offset = record p { address = (p.address + offset) % 2 ^ 64 }

-- the leaves in their order
abbrev pub loaded_slots : Blocks → Pointer → ℕ → List Slot → Result (List Scalar) UndefinedKind
loaded_slots m p align [] = Ok []
loaded_slots m p align (s ∷ ss) = in_front (loaded m (Ptr (behind p s.offset)) s.leaf align) (loaded_slots m p 1 ss)

-- a load of a value; a poison address is undefined even where there is no leaf
abbrev pub loaded_value : Blocks → Scalar → ℕ → List Slot → Result (List Scalar) UndefinedKind
loaded_value m (Ptr p) align slots = loaded_slots m p align slots
loaded_value m (Int n) align slots = Err PoisonAddress
loaded_value m Poison align slots = Err PoisonAddress

-- the leaves in their order
abbrev pub stored_slots : Pointer → ℕ → List (Slot × Scalar) → Blocks → Result Blocks UndefinedKind
stored_slots p align [] m = Ok m
stored_slots p align (x ∷ xs) m = and_then (stored (Ptr (behind p x.0.offset)) x.0.leaf align x.1 m) (λ n. stored_slots p 1 xs n)

-- a store of a value
abbrev pub stored_value : Scalar → ℕ → List (Slot × Scalar) → Blocks → Result Blocks UndefinedKind
stored_value (Ptr p) align value m = stored_slots p align value m
stored_value (Int n) align value m = Err PoisonAddress
stored_value Poison align value m = Err PoisonAddress

-- so many more bytes may live
abbrev pub has_room : ℕ → Blocks → Bool
has_room size m = nat_le (live_bytes m.list + size) byte_limit

-- the block that is added next, at its start
abbrev pub next_block : ℕ → Blocks → Pointer
next_block align m = record { block = Some (length m.list); address = round_up m.next align }

-- memory after a call, or as it was where the call was undefined
abbrev pub or_as_before : Blocks → Result Blocks UndefinedKind → Blocks
or_as_before m (Ok n) = n
or_as_before m (Err kind) = m

-- the blocks of allocas end
abbrev pub released : List Pointer → Blocks → Blocks
released [] m = m
released (p ∷ ps) m = released ps (or_as_before m (ended (Ptr p) Stack m))

-- one byte of a string, and the bytes behind it: the string ends before the first zero
abbrev pub string_from : Scalar → Result (List ℕ) UndefinedKind → Result (List ℕ) UndefinedKind
string_from (Int zero) rest = Ok []
string_from (Int (suc n)) rest = in_front (Ok (suc n)) rest
string_from (Ptr p) rest = Err PoisonArgument
string_from Poison rest = Err PoisonArgument

-- the bytes before the first zero, read byte by byte, no more than `room`; where `room` bytes hold no zero, that is outside a block
unfoldable pub string_within : Blocks → ℕ → Pointer → Result (List ℕ) UndefinedKind
string_within m zero p = Err OutsideBlock
string_within m (suc room) p = and_then (loaded m (Ptr p) (leaf.Int 8) 1) (λ byte. string_from byte (string_within m room (behind p 1)))

-- Bytes that follow one another lie in one block, so a string has fewer bytes than live
abbrev pub string_at : Blocks → Pointer → Result (List ℕ) UndefinedKind
string_at m p = string_within m (live_bytes m.list + 1) p
