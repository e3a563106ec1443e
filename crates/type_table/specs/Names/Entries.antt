-- For `get` and `put` of `NameTable`: what a table has for a name.
use Rattle.std.specs.Prelude.{ℕ, List, [], ◌∷◌, map, Option, Some, None, bytes_eq, cond}
use Rattle.std.specs.Borrow.{Bor}

-- a name as bytes, and its value
abbrev pub entry_in : {V : Type 0} → Bor (List ℕ) × V → List ℕ × V
entry_in entry = (entry.0.now, entry.1)

-- the names of a table as bytes, each with its value
abbrev pub entries_in : {V : Type 0} → List (Bor (List ℕ) × V) → List (List ℕ × V)
entries_in entries = map entry_in entries

-- what stands beside the name
abbrev pub value_of : {V : Type 0} → List (List ℕ × V) → List ℕ → Option V
value_of [] name = None
value_of (entry ∷ entries) name = cond (bytes_eq name entry.0) (Some entry.1) (value_of entries name)
