-- Bytes between quotes, put one behind the other.
use Rattle.std.proofs.Common.{◌≡◌, ℕ, ◌+◌, ◌<◌, ◌≤◌, List, [], ◌∷◌, ◌++◌, length, drop, get_or, sym, ◌∙◌, append_assoc}
use Rattle.std.specs.Prelude.{flat_map}
use Rattle.std.proofs.lemmas.List.{at_drop_more, at_drop_all}
use Rattle.name_rules.specs.Spelled.{quoted_byte}

-- the bytes from a place on, and the quote behind them
abbrev pub quoted_from : List ℕ → ℕ → List ℕ
quoted_from bytes place = flat_map quoted_byte (drop place bytes) ++ 34 ∷ []

-- they are the byte at the place, and those behind it
pub quoted_more : (bytes : List ℕ) (place d : ℕ) → place < length bytes → quoted_byte (get_or bytes place d) ++ quoted_from bytes (place + 1) ≡ quoted_from bytes place
quoted_more bytes place d lt =
    sym (at_drop_more (λ (rest : List ℕ). flat_map quoted_byte rest ++ 34 ∷ []) bytes place d lt
    ∙ append_assoc (quoted_byte (get_or bytes place d)) (flat_map quoted_byte (drop (place + 1) bytes)) (34 ∷ []))

-- at the end the quote is left
pub quoted_end : (bytes : List ℕ) (place : ℕ) → length bytes ≤ place → 34 ∷ [] ≡ quoted_from bytes place
quoted_end bytes place le = sym (at_drop_all (λ (rest : List ℕ). flat_map quoted_byte rest ++ 34 ∷ []) bytes place le)
