-- Says how the code reads: definitions as rows of an id and the bit where one starts.
use Rattle.std.specs.Prelude.{ℕ, ◌+◌, ◌*◌, ◌^◌, List, [], ◌∷◌, if◌then◌else◌, ◌==◌}
use Rattle.std.specs.List.Sorted.{IsNonDecreasingBy}
use Rattle.bit_tree.specs.declared.starts.row.GivenDefinition.{GivenDefinition}
use Rattle.bit_tree.specs.Starts.Given.{with_start}

-- the id of a row, from its halves
unfoldable pub row_id : GivenDefinition → ℕ
row_id row = 2 ^ 32 * row.high + row.low

-- the starts of the rows of an id, in order
abbrev pub starts_in : List GivenDefinition → ℕ → List ℕ
starts_in [] id = []
starts_in (row ∷ rows) id = if row_id row == id then row.start ∷ starts_in rows id else starts_in rows id

-- the ids of rows ascend, or stay
abbrev pub IsAscending : List GivenDefinition → Type 0
IsAscending rows = IsNonDecreasingBy row_id rows

-- a table, given these definitions one by one
abbrev pub table_from : List (ℕ × List ℕ) → List GivenDefinition → List (ℕ × List ℕ)
table_from table [] = table
table_from table (row ∷ rows) = table_from (with_start table (row_id row) row.start) rows

-- the table of these definitions
abbrev pub table_of : List GivenDefinition → List (ℕ × List ℕ)
table_of rows = table_from [] rows
