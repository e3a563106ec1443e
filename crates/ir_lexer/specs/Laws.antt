-- For `one_list` and the laws beside it: laws of token lists.
use Rattle.std.specs.Prelude.{◌≡◌, ℕ, List, ◌⊎◌, ◌↔◌, Some}
use Rattle.ir_lexer.specs.Quoted.{StandsFor, decode}
use Rattle.ir_lexer.specs.declared.quoted.Escape.TheVariants.{Plain}
use Rattle.ir_lexer.specs.Ahead.{AheadIs, ahead, answered}
use Rattle.ir_lexer.specs.Lexer.{Lexing, rest, answer, after}
use Rattle.ir_lexer.specs.Tokens.{Spelled, Tokens, TokensBeforeBad}
use Rattle.ir_lexer.specs.Pieces.{TextPiece, AreSound, pieces_text, tokens_of}

-- a text has at most one list of tokens
abbrev pub OneList : Type 0
OneList = (text : List ℕ) (ts us : List Spelled) → Tokens text ts → Tokens text us → ts ≡ us

-- each text has a list of tokens, or a first byte where none begins
abbrev pub ListOrBad : Type 0
ListOrBad = (text : List ℕ) → ((ts : List Spelled) × Tokens text ts) ⊎ ((ts : List Spelled) × TokensBeforeBad text ts)

-- and never both
abbrev pub ListOrBadNotBoth : Type 0
ListOrBadNotBoth = (text : List ℕ) (ts us : List Spelled) → Tokens text ts → TokensBeforeBad text us → ⊥

-- sound pieces have their spellings as tokens
abbrev pub PiecesAreTokens : Type 0
PiecesAreTokens = (ps : List TextPiece) → AreSound ps → Tokens (pieces_text ps) (tokens_of ps)

-- what reading finds between quotes is what the string stands for
abbrev pub StringsStandForTheirBytes : Type 0
StringsStandForTheirBytes = (inside bytes : List ℕ) → (decode Plain inside ≡ Some bytes) ↔ StandsFor inside bytes

-- one answer, and what is ahead behind it
abbrev pub AheadStepByStep : Type 0
AheadStepByStep = (l : Lexing) → ahead l ≡ answered l (answer l) (ahead (after l))

-- what is ahead of a lexer are the tokens of the rest, or those before its first bad byte
abbrev pub WhatIsAhead : Type 0
WhatIsAhead = (l : Lexing) → AheadIs (rest l) (ahead l)
