use Rattle.std.proofs.Common.{◌≡◌, ℕ, ◌<◌, length, take}
use Rattle.instruction_verify.specs.Uses.Edges.{source_of, sources_from}
use Rattle.instruction_verify.proofs.uses.sources.sources_of.Given as goal

-- the edges of the first blocks are added
abbrev pub invariant-edges : goal.invariant-edges
invariant-edges l = (length l.sources.items ≡ length l.blocks) × ((b : ℕ) → b < length l.blocks → source_of l.sources.items b ≡ sources_from 0 (take l.number l.blocks) b)
