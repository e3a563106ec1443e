-- For `from_text` and `text` of `Name`: which bytes are a name.
use Rattle.std.specs.Prelude.{ℕ, Bool, not, ◌&&◌, ◌==◌, List, length, IsTrue}
use Rattle.std.specs.List.{list_all}

-- at least one byte, and no zero among them
abbrev pub is_name : List ℕ → Bool
is_name bytes = not (length bytes == 0) && list_all (λ byte. not (byte == 0)) bytes

-- the bytes are a name
abbrev pub IsName : List ℕ → Type 0
IsName bytes = IsTrue (is_name bytes)
