-- For `Checked::seal`: what is asked of the text of a data layout (LangRef, "Data Layout").
use Rattle.std.specs.Prelude.{ℕ, Bool, true, not, ◌&&◌, ◌||◌, ◌==◌, nat_eq, bytes_eq, List, [], ◌∷◌, drop, Option, Some, None, codes, if◌then◌else◌}
use Rattle.std.specs.List.{list_any, starts_with}
use Rattle.module_arena.specs.Module.{Bytes}

-- the pieces of a text, with the byte put before the first
abbrev pub on_first : ℕ → List Bytes → List Bytes
on_first b [] = (b ∷ []) ∷ []
on_first b (piece ∷ pieces) = (b ∷ piece) ∷ pieces

-- the pieces of a text between the bytes that separate them
abbrev pub pieces : ℕ → Bytes → List Bytes
pieces separator [] = [] ∷ []
pieces separator (b ∷ bs) = if b == separator then [] ∷ pieces separator bs else on_first b (pieces separator bs)

-- the first of the pieces
abbrev pub first_piece : List Bytes → Bytes
first_piece [] = []
first_piece (piece ∷ others) = piece

-- the pointer size that a component `p:SIZE..` states
abbrev pub stated_size : Bytes → Bytes
stated_size component = first_piece (pieces 58 (drop 2 component))

-- big endian, or pointers of another size than 64 bits
abbrev pub is_foreign_component : Bytes → Bool
is_foreign_component component =
    bytes_eq component (codes "E") || (starts_with nat_eq component (codes "p:") && not (bytes_eq (stated_size component) (codes "64")))

-- no component of the layout is foreign
abbrev pub has_own_layout : Option Bytes → Bool
has_own_layout None = true
has_own_layout (Some text) = not (list_any is_foreign_component (pieces 45 text))
