-- Says how the code reads: a row of a page that is lent to be changed.
use Rattle.std.specs.Prelude.{ℕ, List, slice_set}
use Rattle.std.specs.Borrow.{Lends, MutBor, Fml}
use Rattle.ir_memory.specs.declared.kept.KeptBlock.{KeptBlock}
use Rattle.ir_memory.specs.contracts.kept.KeptBlock.{the_row as block_row}
use Rattle.ir_memory.specs.contracts.page.Page.{the_row}

-- the page ends with the block of that row as it was left
abbrev pub LendsRow : MutBor (List KeptBlock) → ℕ → MutBor KeptBlock → Fml
LendsRow page place block = Lends the_row block_row page block (slice_set page.now place)
