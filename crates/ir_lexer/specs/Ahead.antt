-- For `skip_gap` of `Lexer`, and for `answers_ahead`: all that a lexer has yet to answer, as one list.
use Rattle.std.specs.Prelude.{◌≡◌, ℕ, zero, suc, Bool, true, false, List, [], ◌∷◌, length, Option, Some, None, Result, Ok, Err}
use Rattle.ir_base.specs.declared.place.Place.{Place}
use Rattle.ir_lexer.specs.Lexer.{Lexing, rest, token_spelling, answer, after}
use Rattle.ir_lexer.specs.Place.{place_of}
use Rattle.ir_lexer.specs.Tokens.{Spelled, Tokens, TokensBeforeBad}
use Rattle.ir_lexer.specs.declared.token.Token.{Token}
use Rattle.ir_lexer.specs.declared.token.BadByte.{BadByte}

-- a token, with the place of its first byte
pub record Located : Type 0 where
  pub token : Spelled
  pub place : Place

-- tokens in order, and behind them the end of the text, or a byte at which no token begins; and the place of that
pub record TokensAhead : Type 0 where
  pub tokens : List Located
  pub bad : Bool
  pub place : Place

-- a token in front of what is ahead
abbrev pub before_all : Located → TokensAhead → TokensAhead
before_all t a = record { tokens = t ∷ a.tokens; bad = a.bad; place = a.place }

-- what is ahead, by the next answer and what is ahead behind it
abbrev pub answered : Lexing → Result (Option Token) BadByte → TokensAhead → TokensAhead
answered l (Ok None) a = record { tokens = []; bad = false; place = place_of l.text (after l).at }
answered l (Ok (Some t)) a = before_all (record { token = token_spelling l.text t; place = t.place }) a
answered l (Err e) a = record { tokens = []; bad = true; place = e.place }

-- what is ahead of a lexer, if that is fewer than n answers
unfoldable pub ahead_within : ℕ → Lexing → TokensAhead
ahead_within zero l = record { tokens = []; bad = false; place = place_of l.text l.at }
ahead_within (suc n) l = answered l (answer l) (ahead_within n (after l))

-- what is ahead of a lexer: each token takes a byte at least
unfoldable pub ahead : Lexing → TokensAhead
ahead l = ahead_within (suc (length (rest l))) l

-- the tokens without their places
abbrev pub tokens_in : List Located → List Spelled
tokens_in [] = []
tokens_in (t ∷ ts) = t.token ∷ tokens_in ts

-- these are the tokens of the text, or those before its first bad byte
abbrev pub AheadIs : List ℕ → TokensAhead → Type 0
AheadIs text a = (a.bad ≡ false → Tokens text (tokens_in a.tokens)) × (a.bad ≡ true → TokensBeforeBad text (tokens_in a.tokens))
