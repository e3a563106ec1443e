-- For `print`: phrases to be printed: their tokens with separators, given the separator behind the last one.
use Rattle.std.specs.Prelude.{ℕ, List, [], ◌∷◌, ◌++◌, codes}
use Rattle.ir_lexer.specs.Pieces.{TextPiece, Separator, Nothing, Space}
use Rattle.ir_lexer.specs.declared.token.TokenKind.{TokenKind}
use Rattle.ir_lexer.specs.declared.token.TokenKind.TheVariants as kind

-- what a phrase is, before the separator that follows it
abbrev pub Phrase : Type 0
Phrase = Separator → List TextPiece

-- no token
abbrev pub none : Phrase
none behind = []

-- one token
abbrev pub token : TokenKind → List ℕ → Phrase
token kind spelling behind = record { token = record { kind = kind; spelling = spelling }; separator = behind } ∷ []

-- a word
abbrev pub word : List ℕ → Phrase
word = token kind.Word

-- a mark, as a bracket or a comma
abbrev pub mark : List ℕ → Phrase
mark = token kind.Punctuation

-- a number in decimal
abbrev pub number : List ℕ → Phrase
number = token kind.Integer

infixr 30 ◌␣◌
infixr 30 ◌⌢◌
infixr 30 ◌⨾◌
-- two phrases, one space apart
abbrev pub ◌␣◌ : Phrase → Phrase → Phrase
◌␣◌ p q behind = p Space ++ q behind

-- two phrases with no space between them
abbrev pub ◌⌢◌ : Phrase → Phrase → Phrase
◌⌢◌ p q behind = p Nothing ++ q behind

-- a comma
abbrev pub comma : Phrase
comma = mark (codes ",")

-- a phrase with this separator behind it, whatever else follows
abbrev pub ended : Separator → Phrase → Phrase
ended separator p behind = p separator

-- two phrases, the first of which has its separator
abbrev pub ◌⨾◌ : Phrase → Phrase → Phrase
◌⨾◌ p q behind = p behind ++ q behind

-- each of the phrases with this separator behind it
abbrev pub each : Separator → List Phrase → Phrase
each separator [] = none
each separator (p ∷ ps) = ended separator p ⨾ each separator ps

-- what stands behind a phrase: nothing, where a comma and more follow
abbrev pub before_more : List Phrase → Separator → Separator
before_more [] behind = behind
before_more (p ∷ ps) behind = Nothing

-- each of the phrases behind a comma
abbrev pub more : List Phrase → Phrase
more [] behind = []
more (p ∷ ps) behind = comma Space ++ (p (before_more ps behind) ++ more ps behind)

-- a phrase, and others behind commas
abbrev pub with_more : Phrase → List Phrase → Phrase
with_more p ps behind = p (before_more ps behind) ++ more ps behind

-- phrases with commas between them
abbrev pub listed : List Phrase → Phrase
listed [] = none
listed (p ∷ ps) = with_more p ps

-- in brackets with no space inside
abbrev pub enclosed : List ℕ → Phrase → List ℕ → Phrase
enclosed open_mark p close_mark = mark open_mark ⌢ p ⌢ mark close_mark

-- in parentheses
abbrev pub in_parentheses : Phrase → Phrase
in_parentheses p = enclosed (codes "(") p (codes ")")
