-- For `dump`: how many blocks, records and definitions of abbreviations a tree has, for each block id and in all.
use Rattle.std.specs.Prelude.{ℕ, ◌+◌, List, [], Option, Some, None, unwrap_or}
use Rattle.std.specs.Ordering.{nat_cmp}
use Rattle.std.specs.Map.{lookup}
use Rattle.std.specs.BTreeMap.{is_at, insert_entry}
use Rattle.bit_tree.specs.Stream.{StreamTree, nothing, block, definition, values}
use Rattle.bit_dump.specs.declared.counts.StreamCounts.{StreamCounts}
use Rattle.bit_dump.specs.declared.counts.CountedKind.{CountedKind}
use Rattle.bit_dump.specs.declared.counts.CountedKind.TheVariants.{Blocks, Records, Abbreviations}

-- the counts of each block id, the ids ascending, and those of the whole tree
pub record Tally : Type 0 where
  pub rows : List (ℕ × StreamCounts)
  pub total : StreamCounts

-- nothing was counted
abbrev pub no_counts : StreamCounts
no_counts = record { blocks = 0; records = 0; abbreviations = 0 }

-- nothing was counted, of no block id
abbrev pub no_tally : Tally
no_tally = record { rows = []; total = no_counts }

-- one more of a kind
abbrev pub one_more : CountedKind → StreamCounts → StreamCounts
one_more Blocks c = record { blocks = c.blocks + 1; records = c.records; abbreviations = c.abbreviations }
one_more Records c = record { blocks = c.blocks; records = c.records + 1; abbreviations = c.abbreviations }
one_more Abbreviations c = record { blocks = c.blocks; records = c.records; abbreviations = c.abbreviations + 1 }

-- the counts of a block id: none where it has no row
abbrev pub counts_of : List (ℕ × StreamCounts) → ℕ → StreamCounts
counts_of rows id = unwrap_or (lookup (is_at (nat_cmp id)) rows) no_counts

-- One more in the row of a block id, which is a new row in its place where the id had none. Where no block is open there
-- is no row for it.
abbrev pub with_one : CountedKind → List (ℕ × StreamCounts) → Option ℕ → List (ℕ × StreamCounts)
with_one kind rows None = rows
with_one kind rows (Some id) = insert_entry nat_cmp rows id (one_more kind (counts_of rows id))

-- one more of a kind, for this block and in all
abbrev pub counted : CountedKind → Tally → Option ℕ → Tally
counted kind t here = record { rows = with_one kind t.rows here; total = one_more kind t.total }

-- A tree that stands in this block, counted behind others. A definition counts for the block that it stands in, in
-- BLOCKINFO too.
unfoldable pub tally : Option ℕ → StreamTree → Tally → Tally
tally here nothing t = t
tally here (block id width words inside behind) t = tally here behind (tally (Some id) inside (counted Blocks t (Some id)))
tally here (definition id abbreviation behind) t = tally here behind (counted Abbreviations t here)
tally here (values id code operands has_blob blob behind) t = tally here behind (counted Records t here)
