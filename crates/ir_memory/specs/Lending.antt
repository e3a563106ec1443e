-- Says how the code reads: a block of the table that is lent to be changed.
use Rattle.std.specs.Prelude.{ℕ, List, slice_set}
use Rattle.std.specs.Borrow.{Lends, MutBor, Fml}
use Rattle.ir_memory.specs.declared.kept.KeptBlock.{KeptBlock}
use Rattle.ir_memory.specs.contracts.kept.KeptBlock.{the_row as block_row}
use Rattle.ir_memory.specs.contracts.table.BlockTable.{the_row}

-- the table ends with the block as it was left
abbrev pub LendsBlock : MutBor (List KeptBlock) → ℕ → MutBor KeptBlock → Fml
LendsBlock table index block = Lends the_row block_row table block (slice_set table.now index)
