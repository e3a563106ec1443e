use Rattle.std.proofs.Common.{◌≡◌, ℕ, ◌<◌, get_or}
use Rattle.ir_memory.specs.Seen.{ended_block}
use Rattle.ir_memory.proofs.page.first_kept.Given as goal

abbrev pub invariant-blocks-2 : goal.invariant-blocks-2
invariant-blocks-2 l = (k : ℕ) → k < l.place → get_or l.rows k ended_block ≡ ended_block
