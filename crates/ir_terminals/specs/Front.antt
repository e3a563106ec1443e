-- Says how the code reads: what a cursor keeps: a lexer, and what the lexer answered last.
use Rattle.std.specs.Prelude.{◌≡◌, ℕ, ◌≤◌, Bool, true, false, List, [], length, drop}
use Rattle.ir_lexer.specs.Ahead.{TokensAhead, ahead, before_all}
use Rattle.ir_lexer.specs.Lexer.{Lexing, token_spelling}
use Rattle.ir_lexer.specs.Table.{IsToken}
use Rattle.ir_lexer.specs.declared.lexer.TheConstants.{LARGEST}
use Rattle.ir_lexer.specs.declared.token.Token.{Token}
use Rattle.ir_terminals.specs.Position.{text_tokens, is_cut_off, end_place, is_behind_less}
use Rattle.ir_terminals.specs.Role.{terminal}
use Rattle.ir_terminals.specs.declared.cursor.Front.{Front}
use Rattle.ir_terminals.specs.declared.cursor.Standing.{Standing}
use Rattle.ir_terminals.specs.declared.cursor.Standing.TheVariants as standings
use Rattle.ir_terminals.specs.declared.terminal.Terminal.{Terminal}

-- a token and its terminal, as they are kept
abbrev pub front_of : Token → Terminal → Front
front_of t x = record { standing = standings.Token; kind = t.kind; terminal = x; place = t.place; start = t.start; «end» = t.«end» }

-- the token that is kept
abbrev pub token_in : Front → Token
token_in f = record { kind = f.kind; place = f.place; start = f.start; «end» = f.«end» }

-- what is ahead of the lexer, behind what stands next
abbrev pub ahead_behind : Standing → Lexing → Front → TokensAhead
ahead_behind standings.Token l f = before_all (record { token = token_spelling l.text (token_in f); place = f.place }) (ahead l)
ahead_behind standings.End l f = record { tokens = []; bad = false; place = f.place }
ahead_behind standings.Bad l f = record { tokens = []; bad = true; place = f.place }

-- the answer, and what is ahead of the lexer
abbrev pub ahead_from : Lexing → Front → TokensAhead
ahead_from l f = ahead_behind f.standing l f

-- a token is spelled as its kind is, and has its terminal; what is none has no bytes
abbrev pub HasBytes : Standing → List ℕ → Front → Type 0
HasBytes standings.Token text f = IsToken f.kind (token_spelling text (token_in f)).spelling × (f.terminal ≡ terminal (token_spelling text (token_in f)))
HasBytes standings.End text f = f.«end» ≡ 0
HasBytes standings.Bad text f = f.«end» ≡ 0

-- what is kept lies in the text
pub record IsSound (text : List ℕ) (f : Front) : Type 0 where
  pub order : f.start ≤ f.«end»
  pub within : f.«end» ≤ length text
  pub bytes : HasBytes f.standing text f

-- the lexer's answer
pub record IsFrontOf (old : Lexing) (front : Front) (new : Lexing) : Type 0 where
  pub is_ahead : ahead old ≡ ahead_from new front
  pub text : new.text ≡ old.text
  pub sound : IsSound new.text front

-- the lexer and its last answer are behind so many tokens of the text
pub record IsAt (l : Lexing) (front : Front) (taken : ℕ) (behind : Bool) : Type 0 where
  pub short : length l.text ≤ LARGEST
  pub tokens : drop taken (text_tokens l.text) ≡ (ahead_from l front).tokens
  pub bad : is_cut_off l.text ≡ (ahead_from l front).bad
  pub place : end_place l.text ≡ (ahead_from l front).place
  pub within : taken ≤ length (text_tokens l.text)
  pub sound : IsSound l.text front
  pub behind_is : behind ≡ is_behind_less l.text taken
