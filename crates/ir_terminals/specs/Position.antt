-- For `kind`, `place`, `spelling` and the other calls of `Cursor`: where a cursor stands in a text, and what it has
-- left.
use Rattle.std.specs.Prelude.{ℕ, zero, suc, ◌+◌, Bool, true, false, List, [], ◌∷◌, drop, Option, Some, None}
use Rattle.ir_base.specs.declared.place.Place.{Place}
use Rattle.ir_lexer.specs.Ahead.{Located, ahead}
use Rattle.ir_lexer.specs.Lexer.{at_start}
use Rattle.ir_lexer.specs.Table.{IsToken}
use Rattle.ir_lexer.specs.declared.token.TokenKind.{TokenKind}
use Rattle.ir_terminals.specs.Role.{terminal}
use Rattle.ir_terminals.specs.declared.limits.Limits.{Limits}
use Rattle.ir_terminals.specs.declared.terminal.Terminal.{Terminal}
use Rattle.ir_terminals.specs.declared.terminal.Terminal.TheVariants as terminals

-- a text, how many of its tokens were taken, and the limits of the phrases that are read
pub record Position : Type 0 where
  pub limits : Limits
  pub text : List ℕ
  pub taken : ℕ

-- the tokens of a text, or those before its first byte at which no token begins
abbrev pub text_tokens : List ℕ → List Located
text_tokens text = (ahead (at_start text)).tokens

-- whether behind the tokens stands a byte at which no token begins
abbrev pub is_cut_off : List ℕ → Bool
is_cut_off text = (ahead (at_start text)).bad

-- the place of that byte, or of the end of the text
abbrev pub end_place : List ℕ → Place
end_place text = (ahead (at_start text)).place

-- the tokens that are left
unfoldable pub tokens_left : Position → List Located
tokens_left p = drop p.taken (text_tokens p.text)

-- behind one more token
abbrev pub stepped : Position → Position
stepped p = record { limits = p.limits; text = p.text; taken = p.taken + 1 }

-- what the first token is to phrases
abbrev pub first_terminal : List Located → Option Terminal
first_terminal [] = None
first_terminal (t ∷ ts) = Some (terminal t.token)

-- the kind of the first token
abbrev pub first_kind : List Located → Option TokenKind
first_kind [] = None
first_kind (t ∷ ts) = Some t.token.kind

-- the spelling of the first token
abbrev pub first_spelling : List Located → List ℕ
first_spelling [] = []
first_spelling (t ∷ ts) = t.token.spelling

-- the place of the first token of these, which are left
abbrev pub first_place : Position → List Located → Place
first_place p [] = end_place p.text
first_place p (t ∷ ts) = t.place

-- whether none is left, and the text goes on with a byte at which no token begins
abbrev pub is_bad_next : Position → List Located → Bool
is_bad_next p [] = is_cut_off p.text
is_bad_next p (t ∷ ts) = false

-- the first one is spelled as tokens of its kind are
abbrev pub IsFirstToken : List Located → Type 0
IsFirstToken [] = Unit {0}
IsFirstToken (t ∷ ts) = IsToken t.token.kind t.token.spelling

-- `<`
abbrev pub is_less : Terminal → Bool
is_less terminals.Less = true
is_less _ = false

-- the first token is `<`
abbrev pub is_first_less : List Located → Bool
is_first_less [] = false
is_first_less (t ∷ ts) = is_less (terminal t.token)

-- whether the last of so many tokens of the text is `<`
abbrev pub is_behind_less : List ℕ → ℕ → Bool
is_behind_less text zero = false
is_behind_less text (suc taken) = is_first_less (drop taken (text_tokens text))
