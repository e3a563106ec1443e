-- For `place` of `Lexer`: places in a text: lines and columns from 1, columns in bytes. Only a line feed ends a line.
use Rattle.std.specs.Prelude.{ℕ, ◌+◌, ◌==◌, if◌then◌else◌, List, [], ◌∷◌, take}
use Rattle.ir_base.specs.declared.place.Place.{Place}

-- the place behind a byte
abbrev pub next_place : Place → ℕ → Place
next_place p b = if b == 10 then record { line = p.line + 1; column = 1 } else record { line = p.line; column = p.column + 1 }

-- the place behind bytes that begin at a place
unfoldable pub place_after : Place → List ℕ → Place
place_after p [] = p
place_after p (b ∷ s) = place_after (next_place p b) s

-- where a text begins
abbrev pub first_place : Place
first_place = record { line = 1; column = 1 }

-- the place of the byte with this index, counted from 0; behind the last byte, that of the end
abbrev pub place_of : List ℕ → ℕ → Place
place_of text at = place_after first_place (take at text)
