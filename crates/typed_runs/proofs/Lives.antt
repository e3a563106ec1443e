-- Strings take bytes: as many strings as were stored, or more, are live.
use Rattle.std.proofs.Common.{◌≡◌, ℕ, ◌+◌, ◌≤◌, List, [], ◌∷◌, ◌++◌, length, map, refl, ◌∙◌, arith, Option, Some, None, Result, Ok, Err, Bool, true, false}
use Rattle.std.specs.Prelude.{IfOk, if◌then◌else◌}
use Rattle.ir_tables.specs.declared.undefined_kind.UndefinedKind.{UndefinedKind}
use Rattle.ir_eval.specs.declared.value.Pointer.{Pointer}
use Rattle.ir_eval.specs.declared.value.Scalar.{Scalar}
use Rattle.ir_eval.specs.declared.value.Scalar.TheVariants as scalar
use Rattle.ir_memory.specs.declared.access.BlockPlace.{BlockPlace}
use Rattle.ir_memory.specs.declared.cell.Cell.{Cell}
use Rattle.ir_memory.specs.declared.kind.BlockKind.TheVariants as kind
use Rattle.ir_memory.specs.declared.leaf.Leaf.TheVariants as leaf
use Rattle.ir_memory.specs.MemoryBlock.{new_block}
use Rattle.ir_memory.specs.Cell.{size, leaf_cells}
use Rattle.ir_memory.specs.Memory.{Blocks, added, round_up, live_bytes, access, put_at, stored}
use Rattle.ir_memory.proofs.Placed.{live_bytes-push, live_bytes-written}
use Rattle.run_rules.specs.declared.end.End.{End}
use Rattle.run_rules.specs.declared.end.End.TheVariants.{MemoryLimit}
use Rattle.run_rules.specs.Access.{and_then, behind, has_room, next_block, or_as_before, stored_slots}
use Rattle.run_rules.specs.Leaves.{Slot}
use Rattle.run_rules.specs.Opening.{row_of, block_with, with_string, with_strings}
use Rattle.run_rules.specs.Plan.{Contents}

-- as many bytes live as before
abbrev LivesAs : Blocks → Blocks → Type 0
LivesAs m n = live_bytes n.list ≡ live_bytes m.list

put_lives : (m : Blocks) (cells : List Cell) (place : Result (Option BlockPlace) UndefinedKind) → IfOk (put_at m cells place) (LivesAs m)
put_lives m cells (Err e) = tt
put_lives m cells (Ok None) = refl
put_lives m cells (Ok (Some p)) = live_bytes-written p.index p.offset cells m.list

slots_live : (p : Pointer) (align : ℕ) (xs : List (Slot × Scalar)) (m : Blocks) → IfOk (stored_slots p align xs m) (LivesAs m)
slots_live p align [] m = refl
slots_live p align (x ∷ xs) m =
    go (stored (scalar.Ptr (behind p x.0.offset)) x.0.leaf align x.1 m) (put_lives m (leaf_cells x.0.leaf x.1) (access m (size x.0.leaf) align true (scalar.Ptr (behind p x.0.offset)))) (λ n. slots_live p 1 xs n)
  where
    more : (n : Blocks) → LivesAs m n → (r : Result Blocks UndefinedKind) → IfOk r (LivesAs n) → IfOk r (LivesAs m)
    more n h (Ok o) k = k ∙ h
    more n h (Err e) k = tt

    go : (r : Result Blocks UndefinedKind) → IfOk r (LivesAs m) → ((n : Blocks) → IfOk (stored_slots p 1 xs n) (LivesAs n)) → IfOk (and_then r (λ n. stored_slots p 1 xs n)) (LivesAs m)
    go (Err e) h k = tt
    go (Ok n) h k = more n h (stored_slots p 1 xs n) (k n)

as_before_lives : (m : Blocks) (r : Result Blocks UndefinedKind) → IfOk r (LivesAs m) → LivesAs m (or_as_before m r)
as_before_lives m (Ok n) h = h
as_before_lives m (Err e) h = refl

-- so many more bytes live, at least
abbrev Lives : {X : Type 0} → ℕ → Blocks → Blocks × X → Type 0
Lives more m x = live_bytes m.list + more ≤ live_bytes x.0.list

block_lives : (size align : ℕ) (xs : Contents) (m : Blocks) → IfOk (block_with size align xs m) (Lives size m)
unfolding block_with
block_lives size align xs m = go (has_room size m)
  where
    go : (b : Bool) → IfOk (and_then (if b then Ok (added size align (kind.Variable false) m) else Err MemoryLimit) (λ n. Ok (or_as_before n (stored_slots (next_block align m) 1 xs n), next_block align m))) (Lives size m)
    go false = tt
    go true =
        let n : Blocks = added size align (kind.Variable false) m in
        omega (arith, live_bytes-push m.list (new_block (round_up m.next align) size (kind.Variable false)), as_before_lives n (stored_slots (next_block align m) 1 xs n) (slots_live (next_block align m) 1 xs n))

one_less : {X : Type 0} (more : ℕ) (m : Blocks) (r : Result (Blocks × X) End) → IfOk r (Lives (more + 1) m) → IfOk r (Lives 1 m)
one_less more m (Ok x) h = omega (arith, h)
one_less more m (Err e) h = tt

string_lives : (bytes : List ℕ) (m : Blocks) → IfOk (with_string bytes m) (Lives 1 m)
unfolding with_string
string_lives bytes m =
    one_less (length bytes) m (block_with (length bytes + 1) 1 (row_of 1 (leaf.Int 8) (map scalar.Int (bytes ++ 0 ∷ []))) m) (block_lives (length bytes + 1) 1 (row_of 1 (leaf.Int 8) (map scalar.Int (bytes ++ 0 ∷ []))) m)

pub strings_live : (ss : List (List ℕ)) (m : Blocks) → IfOk (with_strings ss m) (Lives (length ss) m)
unfolding with_strings
strings_live [] m = omega arith
strings_live (s ∷ ss) m = first (with_string s m) (string_lives s m) (λ n. strings_live ss n)
  where
    second : (x : Blocks × Pointer) → Lives 1 m x → (r : Result (Blocks × List Pointer) End) → IfOk r (Lives (length ss) x.0) → IfOk (and_then r (λ y. Ok (y.0, x.1 ∷ y.1))) (Lives (length (s ∷ ss)) m)
    second x k (Err e) l = tt
    second x k (Ok y) l = omega (arith, k, l)

    first : (r : Result (Blocks × Pointer) End) → IfOk r (Lives 1 m) → ((n : Blocks) → IfOk (with_strings ss n) (Lives (length ss) n))
        → IfOk (and_then r (λ x. and_then (with_strings ss x.0) (λ y. Ok (y.0, x.1 ∷ y.1)))) (Lives (length (s ∷ ss)) m)
    first (Err e) k more = tt
    first (Ok x) k more = second x k (with_strings ss x.0) (more x.0)
