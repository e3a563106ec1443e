-- Says how the code of `StreamCounts` and `Tally` reads: counts of 32 bits in two halves, of
-- which the upper ones are mostly none.
use Rattle.std.specs.Prelude.{ℕ, ◌+◌, ◌*◌, List, map, unwrap_or}
use Rattle.std.specs.Ordering.{nat_cmp}
use Rattle.std.specs.Map.{lookup}
use Rattle.std.specs.BTreeMap.{is_at}
use Rattle.bit_dump.specs.declared.counts.StreamCounts.{StreamCounts}
use Rattle.bit_dump.specs.declared.counts.Half.{Half}

-- none of a half
abbrev pub no_half : Half
no_half = record { blocks = 0; records = 0; abbreviations = 0 }

-- counts of these lower and upper halves
abbrev pub whole : Half → Half → StreamCounts
whole lower upper = record {
  blocks = lower.blocks + 65536 * upper.blocks;
  records = lower.records + 65536 * upper.records;
  abbreviations = lower.abbreviations + 65536 * upper.abbreviations;
}

-- the upper halves of a block id: none where it has no row of them
abbrev pub upper_of : List (ℕ × Half) → ℕ → Half
upper_of upper id = unwrap_or (lookup (is_at (nat_cmp id)) upper) no_half

-- the rows of counts of which these are the upper and the lower halves
abbrev pub joined : List (ℕ × Half) → List (ℕ × Half) → List (ℕ × StreamCounts)
joined upper rows = map {B = ℕ × StreamCounts} (λ row. (row.0, whole row.1 (upper_of upper row.0))) rows
