-- For `equal_look_ups_give_equal_runs`: what a host function answers.
use Rattle.std.specs.Prelude.{ℕ, List, [], Result, Ok, Err}
use Rattle.ir_tables.specs.declared.undefined_kind.UndefinedKind.{UndefinedKind}
use Rattle.ir_eval.specs.declared.value.Scalar.{Scalar}
use Rattle.ir_memory.specs.Memory.{Blocks}
use Rattle.type_table.specs.Shape.{Shape}
use Rattle.run_rules.specs.State.{End, Undefined}

-- what a host function answers
pub data Answer : Type 0 where
  -- the leaves of the result, memory, and the bytes that are written
  Gives : (result : List Scalar) → (memory : Blocks) → (output : List ℕ) → Answer
  -- the result is the next byte of the input, or -1 at its end
  Reads : Answer
  Halts : (end : End) → Answer

-- a host function: it sees the shapes of its arguments, their leaves one after another, and memory
abbrev pub HostFunction : Type 0
HostFunction = List Shape → List Scalar → Blocks → Answer

-- the call is undefined
abbrev pub undefined : UndefinedKind → Answer
undefined kind = Halts (Undefined kind)

-- memory changes, and the result is that
abbrev pub changes : List Scalar → Result Blocks UndefinedKind → Answer
changes result (Ok m) = Gives result m []
changes result (Err kind) = undefined kind
