-- Says how the code of `put_steps` reads: where the indices of a `getelementptr` have led to so far, and what one leads over.
use Rattle.std.specs.Prelude.{◌≡◌, ℕ, ◌<◌, true, ⊤, length}
use Rattle.module_arena.specs.TypeTests.{lies_in_memory}
use Rattle.type_table.specs.Shape.{Shape, void_leaf, array_of}
use Rattle.type_table.specs.Types.{Types, structs, tree}
use Rattle.run_rules.specs.Action as actions
use Rattle.run_rules.specs.Displace.{TermIndex}
use Rattle.run_names.specs.Shapes.Shapes.{shape_in}
use Rattle.run_actions.specs.declared.stack.origin.Origin.{Origin}
use Rattle.run_actions.specs.Stack.Origins.{origin_of}
use Rattle.run_decode.specs.declared.operands.steps.StepPlace.{StepPlace}
use Rattle.run_decode.specs.declared.operands.steps.StepPlace.TheVariants.{Whole, Inside, Nowhere}
use Rattle.run_decode.specs.declared.operands.steps.Step.{Step}

-- the term that is meant
abbrev pub term_of : Step → actions.Term
term_of s = record { index = origin_of s.index; width = s.width; size = s.size }

-- an index, as it is written
abbrev pub index_at : Origin → ℕ → TermIndex
index_at o width = record { origin = origin_of o; width = width }

-- the shape into which the next index leads. The first counts whole values, as if these were the elements of an array
abbrev pub shape_at : Types → StepPlace → Shape
shape_at t (Whole ty) = array_of 0 (shape_in t ty)
shape_at t (Inside ty) = shape_in t ty
shape_at t Nowhere = void_leaf

-- a type of the table that lies in memory, if any
abbrev pub IsPlace : Types → StepPlace → Type 0
IsPlace t (Whole ty) = (ty < length t.types) × (lies_in_memory (structs t) (tree t ty) ≡ true)
IsPlace t (Inside ty) = (ty < length t.types) × (lies_in_memory (structs t) (tree t ty) ≡ true)
IsPlace t Nowhere = ⊤
