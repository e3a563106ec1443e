-- For `read_items` and `resolve`: how many items, parameters, blocks and instructions there are.
use Rattle.std.specs.Prelude.{ℕ, ◌+◌, List, length}
use Rattle.std.specs.List.{sum_by}
use Rattle.ir_lexer.specs.declared.lexer.TheConstants.{LARGEST}
use Rattle.ir_phrases.specs.Instructions.Tree.{BlockTree}
use Rattle.ir_syntax.specs.Tree.{ItemTree, Declaration, Definition}

-- a block, with its instructions
abbrev pub block_count : BlockTree → ℕ
block_count block = 1 + length block.instructions

-- an item, with its parameters, blocks and instructions
abbrev pub item_count : ItemTree → ℕ
item_count (Declaration place head parameters variadic) = 1 + length parameters
item_count (Definition place head parameters blocks) = 1 + (length parameters + sum_by block_count blocks)
item_count item = 1

-- all of them together
abbrev pub counted : List ItemTree → ℕ
counted items = sum_by item_count items

-- how many a text has at most: each takes a byte at least
abbrev pub most_counted : ℕ
most_counted = LARGEST
