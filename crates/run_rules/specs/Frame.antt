-- For `equal_look_ups_give_equal_runs`: reading and setting the leaves of a frame.
use Rattle.std.specs.Prelude.{ℕ, ◌+◌, List, [], ◌∷◌, map, slice_index_or, slice_set}
use Rattle.ir_eval.specs.declared.value.Scalar.{Scalar}
use Rattle.ir_eval.specs.declared.value.Scalar.TheVariants.{Poison}
use Rattle.run_rules.specs.Action.{Origin, Held, Known, Move, Edge}
use Rattle.run_rules.specs.State.{Frame}

-- what the leaf is
abbrev pub read : Frame → Origin → Scalar
read f (Held place) = slice_index_or f.leaves place Poison
read f (Known leaf) = leaf

-- what the leaves are
abbrev pub read_all : Frame → List Origin → List Scalar
read_all f origins = map (read f) origins

-- a value's leaves, one after another from that place on
abbrev pub with_leaves : List Scalar → ℕ → List Scalar → List Scalar
with_leaves leaves to [] = leaves
with_leaves leaves to (v ∷ vs) = with_leaves (slice_set leaves to v) (to + 1) vs

-- the value is set, and the frame stays where it is
abbrev pub with_value : Frame → ℕ → List Scalar → Frame
with_value f to value = record f { leaves = with_leaves f.leaves to value }

-- the next instruction is due
abbrev pub moved_on : Frame → Frame
moved_on f = record f { position = f.position + 1 }

-- the result is set, and the next instruction is due
abbrev pub with_result : Frame → ℕ → List Scalar → Frame
with_result f to value = moved_on (with_value f to value)

-- each phi gets what it was to get before any of them did
abbrev pub assigned : Frame → List Move → List Scalar → List Scalar
assigned old [] leaves = leaves
assigned old (m ∷ ms) leaves = assigned old ms (slice_set leaves m.to (read old m.from))

-- the frame goes to the block of the edge
abbrev pub followed : Edge → Frame → Frame
followed e f = record f { block = e.block; position = e.position; leaves = assigned f e.moves f.leaves }
