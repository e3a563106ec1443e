-- For `equal_look_ups_give_equal_runs`: opening, that is memory as it is at first, and what is to be entered. The steps are
-- taken in this order.
use Rattle.std.specs.Prelude.{ℕ, ◌+◌, ◌*◌, true, false, List, [], ◌∷◌, ◌++◌, map, length, zip, Option, Some, None, Result, Ok, Err, if◌then◌else◌}
use Rattle.std.specs.List.{range_with_len}
use Rattle.ir_eval.specs.declared.value.Pointer.{Pointer}
use Rattle.ir_eval.specs.declared.value.Scalar.{Scalar}
use Rattle.ir_eval.specs.declared.value.Scalar.TheVariants.{Int, Ptr}
use Rattle.ir_eval.specs.Cast.{pointer_at}
use Rattle.ir_memory.specs.declared.kind.BlockKind.{BlockKind}
use Rattle.ir_memory.specs.declared.kind.BlockKind.TheVariants as kind
use Rattle.ir_memory.specs.declared.leaf.Leaf.{Leaf}
use Rattle.ir_memory.specs.declared.leaf.Leaf.TheVariants as leaf
use Rattle.ir_memory.specs.Memory.{Blocks, no_blocks, added}
use Rattle.run_rules.specs.Access.{and_then, has_room, next_block, stored_slots, or_as_before}
use Rattle.run_rules.specs.Plan.{Plan, Variable, Contents}
use Rattle.run_rules.specs.Plan as plans
use Rattle.run_rules.specs.State.{Due, Constructor, Main, MainWith, Core, End, MemoryLimit, NoMain, Unresolved}

-- a block more, unless too many bytes would live
abbrev pub made : ℕ → ℕ → BlockKind → Blocks → Result Blocks End
made size align kind m = if has_room size m then Ok (added size align kind m) else Err MemoryLimit

-- variables get their blocks in order
abbrev pub with_variables : List Variable → Blocks → Result Blocks End
with_variables [] m = Ok m
with_variables (v ∷ vs) m = and_then (made v.size v.align (kind.Variable v.constant) m) (λ n. with_variables vs n)

-- each is stored at its pointer
abbrev pub with_contents : List (Pointer × Contents) → Blocks → Blocks
with_contents [] m = m
with_contents (x ∷ xs) m = with_contents xs (or_as_before m (stored_slots x.0 1 x.1 m))

-- leaves of one kind, one behind the other
abbrev pub row_of : ℕ → Leaf → List Scalar → Contents
row_of step leaf values = zip (map (λ k. record { offset = k * step; leaf = leaf }) (range_with_len 0 (length values))) values

-- a block with that in it, and its pointer
unfoldable pub block_with : ℕ → ℕ → Contents → Blocks → Result (Blocks × Pointer) End
block_with size align contents m =
    and_then (made size align (kind.Variable false) m) (λ n. Ok (or_as_before n (stored_slots (next_block align m) 1 contents n), next_block align m))

-- a string, followed by a zero byte
unfoldable pub with_string : List ℕ → Blocks → Result (Blocks × Pointer) End
with_string bytes m = block_with (length bytes + 1) 1 (row_of 1 (leaf.Int 8) (map Int (bytes ++ 0 ∷ []))) m

-- strings, one after another
unfoldable pub with_strings : List (List ℕ) → Blocks → Result (Blocks × List Pointer) End
with_strings [] m = Ok (m, [])
with_strings (s ∷ ss) m = and_then (with_string s m) (λ x. and_then (with_strings ss x.0) (λ y. Ok (y.0, x.1 ∷ y.1)))

-- pointers, followed by a null
unfoldable pub with_pointers : List Pointer → Blocks → Result (Blocks × Pointer) End
with_pointers ps m = block_with (8 * (length ps + 1)) 8 (row_of 8 leaf.Ptr (map Ptr (ps ++ pointer_at 0 ∷ []))) m

-- main, and memory with its arguments
unfoldable pub with_main : plans.Main → List (List ℕ) → Blocks → Result (Blocks × Due) End
with_main main arguments m =
    if main.takes_arguments
    then and_then (with_strings arguments m) (λ x. and_then (with_pointers x.1 x.0) (λ y. Ok (y.0, MainWith main.address (length arguments) y.1)))
    else Ok (m, Main main.address)

-- constants are not written from now on
abbrev pub sealed : Blocks → Blocks
sealed m = record m { sealed = true }

-- initialisers are stored, constants are sealed, and constructors and main are due
abbrev pub ready : Plan → Blocks × Due → Core
ready p x = record { frames = []; due = map Constructor p.constructors ++ x.1 ∷ []; memory = sealed (with_contents p.stores x.0) }

-- variables, arguments and initialisers, in this order
abbrev pub opening_core : Plan → plans.Main → List (List ℕ) → Result Core End
opening_core p main arguments = and_then (with_variables p.variables no_blocks) (λ m. and_then (with_main main arguments m) (λ x. Ok (ready p x)))

-- no main, no run
abbrev pub opened_main : Plan → Option plans.Main → List (List ℕ) → Result Core End
opened_main p None arguments = Err NoMain
opened_main p (Some main) arguments = opening_core p main arguments

-- a missing symbol comes before all else
abbrev pub opened_from : Plan → Option (List ℕ) → List (List ℕ) → Result Core End
opened_from p (Some name) arguments = Err (Unresolved name)
opened_from p None arguments = opened_main p p.main arguments

-- what a run begins with, or how it ends before it has begun
abbrev pub opened : Plan → List (List ℕ) → Result Core End
opened p arguments = opened_from p p.missing arguments
