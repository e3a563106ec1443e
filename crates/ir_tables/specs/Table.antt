-- For `word_of` and `code_of` of `Table`: tables of words and codes.
use Rattle.std.specs.Prelude.{◌≡◌, ℕ, Bool, true, not, ◌&&◌, List, [], ◌∷◌, map, length, Some, slice_get, ◌==◌, bytes_eq, nat_eq}
use Rattle.std.specs.List.{list_any}
use Rattle.ir_tables.specs.declared.table.WordRow.{WordRow}

-- what a row says: a word, as its bytes, and the word's code
pub record WordEntry : Type 0 where
  pub word : List ℕ
  pub code : ℕ

-- a row as an entry
abbrev pub entry_of : WordRow → WordEntry
entry_of row = record { word = row.word.now; code = row.code }

-- rows as entries
abbrev pub entries : List WordRow → List WordEntry
entries rows = map entry_of rows

-- the words of a table
abbrev pub words : List WordEntry → List (List ℕ)
words table = map (λ entry. entry.word) table

-- the codes of a table
abbrev pub codes_of : List WordEntry → List ℕ
codes_of table = map (λ entry. entry.code) table

-- no value stands at two places
abbrev pub IsDistinct : {A : Type 0} → List A → Type 0
IsDistinct {A} values = (i j : ℕ) (value : A) → slice_get values i ≡ Some value → slice_get values j ≡ Some value → i ≡ j

-- a table of this many rows, no two of which have the same word or the same code
pub record IsTable (count : ℕ) (table : List WordEntry) : Type 0 where
  pub exact : length table ≡ count
  pub distinct_words : IsDistinct (words table)
  pub distinct_codes : IsDistinct (codes_of table)

-- `IsDistinct` as a test that computes
abbrev pub is_distinct : {A : Type 0} → (A → A → Bool) → List A → Bool
is_distinct same [] = true
is_distinct same (value ∷ values) = not (list_any (same value) values) && is_distinct same values

-- `IsTable` as a test
abbrev pub is_table : ℕ → List WordEntry → Bool
is_table count table = (length table == count) && (is_distinct bytes_eq (words table) && is_distinct nat_eq (codes_of table))
