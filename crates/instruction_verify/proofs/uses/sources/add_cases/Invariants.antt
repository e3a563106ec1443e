use Rattle.std.proofs.Common.{◌≡◌, ℕ, ◌<◌, ◌++◌, length, map, take}
use Rattle.instruction_verify.specs.Uses.Edges.{edges_to, source_of}
use Rattle.instruction_verify.proofs.uses.sources.add_cases.Given as goal

-- the edges of the first cases are added
abbrev pub invariant-cases : goal.invariant-cases
invariant-cases l = (length l.sources ≡ length l.initial.sources)
    × ((b : ℕ) → b < length l.initial.sources → source_of l.sources b ≡ source_of l.initial.sources b ++ edges_to l.from (map (λ c. c.target) (take l.case-index l.cases)) b)
