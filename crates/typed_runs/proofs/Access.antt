-- Whole values in memory, strings, and the blocks of allocas.
use Rattle.std.proofs.Common.{ℕ, zero, suc, ◌+◌, ◌^◌, ◌<◌, ◌≤◌, List, [], ◌∷◌, length, map, arith, Result, Ok, Err}
use Rattle.std.specs.Prelude.{IfOk}
use Rattle.std.specs.List.{All, AllZip}
use Rattle.std.proofs.lemmas.List.Elements.{All-nil, All-cons}
use Rattle.ir_tables.specs.declared.undefined_kind.UndefinedKind.{UndefinedKind}
use Rattle.ir_eval.specs.declared.value.Pointer.{Pointer}
use Rattle.ir_eval.specs.declared.value.Scalar.{Scalar}
use Rattle.ir_eval.specs.declared.value.Scalar.TheVariants as scalar
use Rattle.ir_memory.specs.declared.leaf.Leaf.{Leaf}
use Rattle.ir_memory.specs.declared.leaf.Leaf.TheVariants as leaf
use Rattle.ir_memory.specs.declared.kind.BlockKind.TheVariants.{Stack}
use Rattle.ir_memory.specs.Memory.{Blocks, loaded, stored, ended, live_bytes}
use Rattle.run_rules.specs.Access.{and_then, in_front, behind, loaded_slots, loaded_value, stored_slots, stored_value, or_as_before, released, string_from, string_within, string_at}
use Rattle.run_rules.specs.Leaves.{Slot}
use Rattle.typed_runs.specs.Kinds.{IsOf}
use Rattle.typed_runs.specs.States.{IsTypedMemory, AreStored}
use Rattle.typed_runs.proofs.Leaves.{leaf_more}
use Rattle.typed_runs.proofs.Memory.{IsKeptTyped, nothing_done, then_done, stored_typed, ended_typed, loaded_fits}

-- values

in_front_typed : (count : ℕ) (kind : Leaf) (kinds : List Leaf) (one : Result Scalar UndefinedKind) (others : Result (List Scalar) UndefinedKind)
    → IfOk one (IsOf count kind) → IfOk others (AllZip (IsOf count) kinds) → IfOk (in_front one others) (AllZip (IsOf count) (kind ∷ kinds))
in_front_typed count kind kinds (Err e) others h k = tt
in_front_typed count kind kinds (Ok v) (Err e) h k = tt
in_front_typed count kind kinds (Ok v) (Ok vs) h k = (h, k)

loaded_slots_typed : (m : Blocks) (p : Pointer) (align : ℕ) (slots : List Slot) → IsTypedMemory m → IfOk (loaded_slots m p align slots) (AllZip (IsOf (length m.list)) (map (λ s. s.leaf) slots))
loaded_slots_typed m p align [] h = tt
loaded_slots_typed m p align (s ∷ ss) h =
    in_front_typed (length m.list) s.leaf (map (λ s. s.leaf) ss) (loaded m (scalar.Ptr (behind p s.offset)) s.leaf align) (loaded_slots m p 1 ss)
    (loaded_fits m (scalar.Ptr (behind p s.offset)) s.leaf align h) (loaded_slots_typed m p 1 ss h)

pub loaded_value_typed : (m : Blocks) (address : Scalar) (align : ℕ) (slots : List Slot) → IsTypedMemory m → IfOk (loaded_value m address align slots) (AllZip (IsOf (length m.list)) (map (λ s. s.leaf) slots))
loaded_value_typed m (scalar.Ptr p) align slots h = loaded_slots_typed m p align slots h
loaded_value_typed m (scalar.Int n) align slots h = tt
loaded_value_typed m scalar.Poison align slots h = tt

then_typed : (m : Blocks) (one : Result Blocks UndefinedKind) (more : Blocks → Result Blocks UndefinedKind)
    → IfOk one (IsKeptTyped m) → ((n : Blocks) → IsKeptTyped m n → IfOk (more n) (IsKeptTyped n)) → IfOk (and_then one more) (IsKeptTyped m)
then_typed m (Err e) more h k = tt
then_typed m (Ok n) more h k = go (more n) (k n h)
  where
    go : (r : Result Blocks UndefinedKind) → IfOk r (IsKeptTyped n) → IfOk r (IsKeptTyped m)
    go (Ok o) i = then_done m n o h i
    go (Err e) i = tt

pub stored_more : (count more : ℕ) (xs : List (Slot × Scalar)) → count ≤ more → AreStored count xs → AreStored more xs
stored_more count more [] le h = tt
stored_more count more (x ∷ xs) le h = (leaf_more count more x.0.leaf x.1 le h.0, stored_more count more xs le h.1)

pub stored_slots_typed : (p : Pointer) (align : ℕ) (xs : List (Slot × Scalar)) (m : Blocks) → AreStored (length m.list) xs → IsTypedMemory m → IfOk (stored_slots p align xs m) (IsKeptTyped m)
stored_slots_typed p align [] m is h = nothing_done m h
stored_slots_typed p align (x ∷ xs) m is h =
    then_typed m (stored (scalar.Ptr (behind p x.0.offset)) x.0.leaf align x.1 m) (λ n. stored_slots p 1 xs n)
    (stored_typed m (scalar.Ptr (behind p x.0.offset)) x.0.leaf align x.1 is.0 h)
    (λ n k. stored_slots_typed p 1 xs n (stored_more (length m.list) (length n.list) xs (omega (arith, k.1.0)) is.1) k.0)

pub stored_value_typed : (address : Scalar) (align : ℕ) (xs : List (Slot × Scalar)) (m : Blocks) → AreStored (length m.list) xs → IsTypedMemory m → IfOk (stored_value address align xs m) (IsKeptTyped m)
stored_value_typed (scalar.Ptr p) align xs m is h = stored_slots_typed p align xs m is h
stored_value_typed (scalar.Int n) align xs m is h = tt
stored_value_typed scalar.Poison align xs m is h = tt

-- allocas

pub as_before_typed : (m : Blocks) (r : Result Blocks UndefinedKind) → IsTypedMemory m → IfOk r (IsKeptTyped m) → IsKeptTyped m (or_as_before m r)
as_before_typed m (Ok n) h k = k
as_before_typed m (Err e) h k = nothing_done m h

pub released_typed : (ps : List Pointer) (m : Blocks) → IsTypedMemory m → IsKeptTyped m (released ps m)
released_typed [] m h = nothing_done m h
released_typed (p ∷ ps) m h =
    let n = or_as_before m (ended (scalar.Ptr p) Stack m) in
    let k : IsKeptTyped m n = as_before_typed m (ended (scalar.Ptr p) Stack m) h (ended_typed m (scalar.Ptr p) Stack h) in
    then_done m n (released ps n) k (released_typed ps n k.0)

-- strings are bytes

abbrev pub AreBytes : List ℕ → Type 0
AreBytes bytes = All (λ b. b < 256) bytes

string_from_typed : (count : ℕ) (v : Scalar) (others : Result (List ℕ) UndefinedKind) → IsOf count (leaf.Int 8) v → IfOk others AreBytes → IfOk (string_from v others) AreBytes
string_from_typed count (scalar.Int zero) others h k = All-nil (λ b. b < 256)
string_from_typed count (scalar.Int (suc n)) (Ok bytes) h k = All-cons (λ b. b < 256) (suc n) bytes h k
string_from_typed count (scalar.Int (suc n)) (Err e) h k = tt
string_from_typed count (scalar.Ptr p) others h k = tt
string_from_typed count scalar.Poison others h k = tt

pub string_then : (count : ℕ) (v : Result Scalar UndefinedKind) (others : Result (List ℕ) UndefinedKind) → IfOk v (IsOf count (leaf.Int 8)) → IfOk others AreBytes → IfOk (and_then v (λ byte. string_from byte others)) AreBytes
string_then count (Ok v) others h k = string_from_typed count v others h k
string_then count (Err e) others h k = tt

string_within_typed : (m : Blocks) (room : ℕ) (p : Pointer) → IsTypedMemory m → IfOk (string_within m room p) AreBytes
unfolding string_within
string_within_typed m zero p h = tt
string_within_typed m (suc room) p h =
    string_then (length m.list) (loaded m (scalar.Ptr p) (leaf.Int 8) 1) (string_within m room (behind p 1))
    (loaded_fits m (scalar.Ptr p) (leaf.Int 8) 1 h) (string_within_typed m room (behind p 1) h)

pub string_at_typed : (m : Blocks) (p : Pointer) → IsTypedMemory m → IfOk (string_at m p) AreBytes
string_at_typed m p h = string_within_typed m (live_bytes m.list + 1) p h

-- and not long

short_from : (room : ℕ) (v : Scalar) (others : Result (List ℕ) UndefinedKind) → IfOk others (λ bytes. length bytes < room) → IfOk (string_from v others) (λ bytes. length bytes < suc room)
short_from room (scalar.Int zero) others h = omega arith
short_from room (scalar.Int (suc n)) (Ok bytes) h = omega (arith, h)
short_from room (scalar.Int (suc n)) (Err e) h = tt
short_from room (scalar.Ptr p) others h = tt
short_from room scalar.Poison others h = tt

short_then : (room : ℕ) (v : Result Scalar UndefinedKind) (others : Result (List ℕ) UndefinedKind) → IfOk others (λ bytes. length bytes < room) → IfOk (and_then v (λ byte. string_from byte others)) (λ bytes. length bytes < suc room)
short_then room (Ok v) others h = short_from room v others h
short_then room (Err e) others h = tt

short_within : (m : Blocks) (room : ℕ) (p : Pointer) → IfOk (string_within m room p) (λ bytes. length bytes < room)
unfolding string_within
short_within m zero p = tt
short_within m (suc room) p = short_then room (loaded m (scalar.Ptr p) (leaf.Int 8) 1) (string_within m room (behind p 1)) (short_within m room (behind p 1))

pub string_at_short : (m : Blocks) (p : Pointer) → IsTypedMemory m → IfOk (string_at m p) (λ bytes. length bytes < 2 ^ 64)
string_at_short m p h = go (string_at m p) (short_within m (live_bytes m.list + 1) p)
  where
    go : (r : Result (List ℕ) UndefinedKind) → IfOk r (λ bytes. length bytes < live_bytes m.list + 1) → IfOk r (λ bytes. length bytes < 2 ^ 64)
    go (Ok bytes) k = let limit = h.limit in omega (arith, k, limit)
    go (Err e) k = tt
