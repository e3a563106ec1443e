-- For `read`, `read_all` and `follow` of `Stack`: the leaves of an action as the code has them, and what is had from a frame's leaves.
use Rattle.std.specs.Prelude.{ℕ, ◌+◌, ◌<◌, ⊤, List, [], ◌∷◌, map, slice_index_or, slice_set}
use Rattle.ir_eval.specs.declared.value.Scalar.{Scalar}
use Rattle.ir_eval.specs.declared.value.Scalar.TheVariants.{Poison}
use Rattle.run_rules.specs.Action as actions
use Rattle.run_actions.specs.declared.stack.origin.Origin.{Origin}
use Rattle.run_actions.specs.declared.stack.origin.Origin.TheVariants.{Held, Known}
use Rattle.run_actions.specs.declared.stack.origin.Move.{Move}

-- what it is in an action
abbrev pub origin_of : Origin → actions.Origin
origin_of (Held place) = actions.Held place
origin_of (Known leaf) = actions.Known leaf

-- the same of a phi's leaf
abbrev pub move_of : Move → actions.Move
move_of m = record { to = m.to; from = origin_of m.from }

-- the same of an edge
abbrev pub edge_of : ℕ → ℕ → List Move → actions.Edge
edge_of block position moves = record { block = block; position = position; moves = map move_of moves }

-- a place is one of so many
abbrev pub IsIn : ℕ → Origin → Type 0
IsIn count (Held place) = place < count
IsIn count (Known leaf) = ⊤

-- both places are among so many
abbrev pub IsMoveIn : ℕ → Move → Type 0
IsMoveIn count m = (m.to < count) × IsIn count m.from

-- what is had from a frame with these leaves
abbrev pub had : List Scalar → actions.Origin → Scalar
had leaves (actions.Held place) = slice_index_or leaves place Poison
had leaves (actions.Known leaf) = leaf

-- the same of leaves one after another
abbrev pub had_all : List Scalar → List Origin → List Scalar
had_all leaves origins = map (λ o. had leaves (origin_of o)) origins

-- in a pool where the frame begins at `first`, each phi gets what the frame's leaves, as they were, gave
abbrev pub moved : ℕ → List Scalar → List Move → List Scalar → List Scalar
moved first old [] pool = pool
moved first old (m ∷ ms) pool = moved first old ms (slice_set pool (first + m.to) (had old (origin_of m.from)))

-- each phi gets the leaf of a list that stands at its place there
abbrev pub spread : ℕ → List Move → List Scalar → List Scalar → List Scalar
spread first [] values pool = pool
spread first (m ∷ ms) [] pool = pool
spread first (m ∷ ms) (v ∷ vs) pool = spread first ms vs (slice_set pool (first + m.to) v)
