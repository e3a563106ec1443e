-- Says how the code reads: how long the first piece of the text of a layout is.
use Rattle.std.specs.Prelude.{ℕ, suc, ◌==◌, List, [], ◌∷◌, if◌then◌else◌}

-- how long the text is up to the next separator, or to its end
abbrev pub piece_length : ℕ → List ℕ → ℕ
piece_length separator [] = 0
piece_length separator (b ∷ bs) = if b == separator then 0 else suc (piece_length separator bs)
