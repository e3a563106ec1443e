-- For `give`, `get` and `count` of `Given`: the ids that were given definitions, ascending, each with the bits where
-- they start.
use Rattle.std.specs.Prelude.{ℕ, List, [], ◌∷◌, ◌++◌, unwrap_or}
use Rattle.std.specs.Ordering.{nat_cmp}
use Rattle.std.specs.Map.{lookup, remove_entry}
use Rattle.std.specs.BTreeMap.{is_at, insert_entry}

-- the starts of the definitions that an id was given, in order
abbrev pub starts_of : List (ℕ × List ℕ) → ℕ → List ℕ
starts_of table id = unwrap_or (lookup (is_at (nat_cmp id)) table) []

-- one more definition for an id
abbrev pub with_start : List (ℕ × List ℕ) → ℕ → ℕ → List (ℕ × List ℕ)
with_start table id start = insert_entry nat_cmp (remove_entry (is_at (nat_cmp id)) table) id (starts_of table id ++ start ∷ [])
