-- Says how the code reads: the table keeps a row for each number of a block, in pages of 64 rows each; a row that is not
-- there is one of a block that has ended.
use Rattle.std.specs.Prelude.{◌≡◌, ℕ, ◌+◌, ◌*◌, ◌/◌, ◌%◌, ◌<◌, ◌≤◌, List, [], length, map, slice_index_or}
use Rattle.std.specs.List.{range_with_len}
use Rattle.ir_memory.specs.declared.kept.KeptBlock.{KeptBlock}
use Rattle.ir_memory.specs.Seen.{ended_block}

-- the block of a row
abbrev pub row : List KeptBlock → ℕ → KeptBlock
row rows k = slice_index_or rows k ended_block

-- a page; behind all pages one without rows
abbrev pub page : List (List KeptBlock) → ℕ → List KeptBlock
page pages p = slice_index_or pages p []

-- the block of a number
abbrev pub kept_in : List (List KeptBlock) → ℕ → KeptBlock
kept_in pages n = row (page pages (n / 64)) (n % 64)

-- the blocks of the first so many numbers
abbrev pub numbered : ℕ → (ℕ → KeptBlock) → List KeptBlock
numbered count kept = map kept (range_with_len 0 count)

-- there are as many pages as so many numbers ask for, and where the last one is not full, it has a row for each of its numbers
pub record IsPaged (count : ℕ) (pages : List (List KeptBlock)) : Type 0 where
  pub enough : count ≤ 64 * length pages
  pub few : 64 * length pages < count + 64
  pub last : length (page pages (count / 64)) ≡ count % 64
