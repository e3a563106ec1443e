-- For `one_list` and the laws beside it: what the tokens of a text are.
use Rattle.std.specs.Prelude.{◌≡◌, ℕ, ◌≤◌, Bool, true, false, not, ◌&&◌, cond, List, [], ◌∷◌, ◌++◌, length, Option, Some, None}
use Rattle.ir_lexer.specs.Class.{byte_class, starts_with, is_blank, is_semicolon, is_line_feed, is_c, is_quote}
use Rattle.ir_lexer.specs.Table.{IsToken}
use Rattle.ir_lexer.specs.declared.token.TokenKind.{TokenKind}

-- a token by its kind and its bytes
pub record Spelled : Type 0 where
  pub kind : TokenKind
  pub spelling : List ℕ

-- Whether a comment is open behind these bytes, and was before them. None: some byte is neither a separator nor in a comment.
abbrev pub gap_state : Bool → List ℕ → Option Bool
gap_state within [] = Some within
gap_state true (b ∷ s) = gap_state (not (is_line_feed (byte_class b))) s
gap_state false (b ∷ s) = cond (is_blank (byte_class b)) (gap_state false s) (cond (is_semicolon (byte_class b)) (gap_state true s) None)

-- separators, and comments to the ends of their lines
abbrev pub IsGap : List ℕ → Type 0
IsGap s = gap_state false s ≡ Some false

-- the same at the end of a text, where the last comment need not end
abbrev pub IsLastGap : List ℕ → Type 0
IsLastGap s = (within : Bool) × (gap_state false s ≡ Some within)

-- a `c` directly before a quote: it begins a byte string, and is no word
abbrev pub is_cut : List ℕ → List ℕ → Bool
is_cut (b ∷ []) rest = is_c (byte_class b) && starts_with is_quote rest
is_cut _ rest = false

-- a token of the kind, where these bytes follow it
pub record StandsBefore (kind : TokenKind) (spelling rest : List ℕ) : Type 0 where
  pub token : IsToken kind spelling
  pub whole : is_cut spelling rest ≡ false

-- no token at the front of the text is longer
abbrev pub IsLongest : List ℕ → List ℕ → Type 0
IsLongest s text = (kind : TokenKind) (other rest : List ℕ) → StandsBefore kind other rest → other ++ rest ≡ text → length other ≤ length s

-- the text is a gap, the token, and the rest
pub record Begins (text : List ℕ) (t : Spelled) (rest : List ℕ) : Type 0 where
  pub gap : List ℕ
  pub parts : text ≡ gap ++ (t.spelling ++ rest)
  pub gap_is : IsGap gap
  pub token : StandsBefore t.kind t.spelling rest
  pub longest : IsLongest t.spelling (t.spelling ++ rest)

-- these are the tokens of the text, all of it
abbrev pub Tokens : List ℕ → List Spelled → Type 0
Tokens text [] = IsLastGap text
Tokens text (t ∷ ts) = (rest : List ℕ) × Begins text t rest × Tokens rest ts

-- these are the first tokens of the text, and the rest is behind them
abbrev pub TokensFront : List ℕ → List Spelled → List ℕ → Type 0
TokensFront text [] rest = text ≡ rest
TokensFront text (t ∷ ts) rest = (next : List ℕ) × Begins text t next × TokensFront next ts rest

-- behind a gap stands a byte at which no token begins
pub record IsBad (text : List ℕ) : Type 0 where
  pub gap : List ℕ
  pub byte : ℕ
  pub rest : List ℕ
  pub parts : text ≡ gap ++ byte ∷ rest
  pub gap_is : IsGap gap
  pub no_gap : gap_state false (byte ∷ []) ≡ None
  pub no_token : (kind : TokenKind) (s more : List ℕ) → StandsBefore kind s more → s ++ more ≡ byte ∷ rest → ⊥

-- these are the tokens of the text before the first byte where none begins
abbrev pub TokensBeforeBad : List ℕ → List Spelled → Type 0
TokensBeforeBad text ts = (rest : List ℕ) × TokensFront text ts rest × IsBad rest
