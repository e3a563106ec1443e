-- Says how the code of `read_items` reads: how much blocks hold.
use Rattle.std.specs.Prelude.{ℕ, ◌+◌, length}
use Rattle.ir_phrases.specs.Instructions.Tree.{BlockTree}

-- the block and its instructions, or, which is as many, its instructions and its end
abbrev pub block_count : BlockTree → ℕ
block_count b = length b.instructions + 1
