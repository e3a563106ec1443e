-- For `print` and `put_global`: how names, texts and numbers stand in canonical text.
use Rattle.std.specs.Prelude.{ℕ, ◌-◌, ◌^◌, nat_lt, List, [], ◌∷◌, ◌++◌, flat_map, if◌then◌else◌}
use Rattle.ir_lexer.specs.declared.token.TokenKind.TheVariants as kind
use Rattle.module_arena.specs.Module.{Bytes, LocalName, Named, Numbered}
use Rattle.name_rules.specs.Spelled.{decimal, quoted_byte, name_spelling, spelled_global, spelled_struct}
use Rattle.canonical.specs.Phrase.{Phrase, token, number}

-- bytes between quotes
abbrev pub quoted : Bytes → List ℕ
quoted bytes = 34 ∷ flat_map quoted_byte bytes ++ 34 ∷ []

-- @name
abbrev pub global : Bytes → Phrase
global name = token kind.GlobalName (spelled_global name)

-- %name, also of a struct
abbrev pub named_local : Bytes → Phrase
named_local name = token kind.LocalName (spelled_struct name)

-- %name or %number
abbrev pub local : LocalName → Phrase
local (Named name) = named_local name
local (Numbered n) = token kind.UnnamedLocal (37 ∷ decimal n)

-- a name or a number with no mark before it
abbrev pub label_spelling : LocalName → List ℕ
label_spelling (Named name) = name_spelling name
label_spelling (Numbered n) = decimal n

-- name: or number:
abbrev pub label : LocalName → Phrase
label name = token kind.Label (label_spelling name ++ 58 ∷ [])

-- "..."
abbrev pub text : Bytes → Phrase
text bytes = token kind.Quoted (quoted bytes)

-- c"..."
abbrev pub byte_string : Bytes → Phrase
byte_string bytes = token kind.ByteString (99 ∷ quoted bytes)

-- a number without a sign
abbrev pub natural : ℕ → Phrase
natural n = number (decimal n)

-- of a number modulo 2 to the width, the one of least magnitude: negative from the half on
abbrev pub signed_spelling : ℕ → ℕ → List ℕ
signed_spelling width n = if nat_lt n (2 ^ (width - 1)) then decimal n else 45 ∷ decimal (2 ^ width - n)
