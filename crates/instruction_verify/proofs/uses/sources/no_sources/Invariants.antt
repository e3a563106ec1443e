use Rattle.std.proofs.Common.{◌≡◌, ℕ, [], length}
use Rattle.instruction_verify.specs.Uses.Edges.{source_of}
use Rattle.instruction_verify.proofs.uses.sources.no_sources.Given as goal

-- a list for each block so far
abbrev pub invariant-lists : goal.invariant-lists
invariant-lists l = (length l.sources.items ≡ l._number) × ((b : ℕ) → source_of l.sources.items b ≡ [])
