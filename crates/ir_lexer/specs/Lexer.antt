-- For `new`, `next`, `next_plain`, `skip_gap` and `spelling` of `Lexer`: a lexer in a text, and what it answers.
use Rattle.std.specs.Prelude.{◌≡◌, ℕ, ◌+◌, ◌-◌, ◌≤◌, ◌<◌, Bool, true, false, List, [], ◌∷◌, length, take, drop, Option, Some, None, Result, Ok, Err}
use Rattle.ir_lexer.specs.Front.{next_token}
use Rattle.ir_lexer.specs.Gap.{gap_length}
use Rattle.ir_lexer.specs.Place.{place_of}
use Rattle.ir_lexer.specs.Tokens.{Spelled, Begins, IsLastGap, IsBad}
use Rattle.ir_lexer.specs.declared.token.TokenKind.{TokenKind}
use Rattle.ir_lexer.specs.declared.token.Token.{Token}
use Rattle.ir_lexer.specs.declared.token.BadByte.{BadByte}

-- the text, and how many of its bytes are behind the lexer
pub record Lexing : Type 0 where
  pub text : List ℕ
  pub at : ℕ

-- at the first byte
abbrev pub at_start : List ℕ → Lexing
at_start text = record { text = text; at = 0 }

-- what the lexer has not gone over
abbrev pub rest : Lexing → List ℕ
rest l = drop l.at l.text

-- a token of a text, by its kind and its bytes
abbrev pub token_spelling : List ℕ → Token → Spelled
token_spelling text t = record { kind = t.kind; spelling = take (t.«end» - t.start) (drop t.start text) }

-- it begins before it ends, in the text
pub record LiesIn (text : List ℕ) (t : Token) : Type 0 where
  pub order : t.start < t.«end»
  pub within : t.«end» ≤ length text

-- What an answer says of the rest: at the end only separators and comments are left; a token is what the rest begins
-- with; a bad byte is one at which no token begins, and the lexer stands at it.
abbrev pub Says : Lexing → Result (Option Token) BadByte → Lexing → Type 0
Says l (Ok None) next = IsLastGap (rest l)
Says l (Ok (Some t)) next = Begins (rest l) (token_spelling l.text t) (rest next)
Says l (Err e) next = (bad : IsBad (rest l)) × (rest next ≡ bad.byte ∷ bad.rest)

-- Where an answer is: a token's place is that of its first byte, and the lexer stands at its end; a bad byte's place
-- is that of the byte at which the lexer stands.
abbrev pub IsPlaced : Lexing → Result (Option Token) BadByte → Lexing → Type 0
IsPlaced l (Ok None) next = rest next ≡ []
IsPlaced l (Ok (Some t)) next = LiesIn l.text t × (t.place ≡ place_of l.text t.start) × (next.at ≡ t.«end»)
IsPlaced l (Err e) next = (next.at < length l.text) × (e.place ≡ place_of l.text next.at)

-- reading: where the lexer is further on
abbrev pub advanced : Lexing → ℕ → Lexing
advanced l n = record { text = l.text; at = l.at + n }

-- behind the separators and comments
unfoldable pub skipped : Lexing → Lexing
skipped l = advanced l (gap_length false (rest l))

-- a token of so many bytes at the lexer's place
abbrev pub token_at : Lexing → TokenKind → ℕ → Token
token_at l kind n = record { kind = kind; place = place_of l.text l.at; start = l.at; «end» = l.at + n }

-- there is nothing left
abbrev pub is_nil : List ℕ → Bool
is_nil [] = true
is_nil (b ∷ bs) = false

-- the token that stands in front, or the place where none does
abbrev pub token_found : Lexing → Option (TokenKind × ℕ) → Result (Option Token) BadByte
token_found l None = Err (record { place = place_of l.text l.at })
token_found l (Some (kind, n)) = Ok (Some (token_at l kind n))

-- the answer at what stands behind separators and comments
abbrev pub answer_at : Lexing → List ℕ → Result (Option Token) BadByte
answer_at l [] = Ok None
answer_at l (b ∷ bs) = token_found l (next_token (b ∷ bs))

-- the lexer behind the token that stands in front
abbrev pub gone : Lexing → Option (TokenKind × ℕ) → Lexing
gone l None = l
gone l (Some (kind, n)) = advanced l n

-- what the lexer answers
unfoldable pub answer : Lexing → Result (Option Token) BadByte
answer l = answer_at (skipped l) (rest (skipped l))

-- and where it then stands
unfoldable pub after : Lexing → Lexing
after l = gone (skipped l) (next_token (rest (skipped l)))

-- each later answer is the same, unless this one is a token
abbrev pub Stays : Result (Option Token) BadByte → Lexing → Type 0
Stays (Ok (Some t)) next = Unit {0}
Stays (Ok None) next = (answer next ≡ Ok None) × (after next ≡ next)
Stays (Err e) next = (answer next ≡ Err e) × (after next ≡ next)

-- the token is what the lexer answers, and it then stands behind it
pub record IsAnswered (l : Lexing) (t : Token) (next : Lexing) : Type 0 where
  pub answer : answer l ≡ Ok (Some t)
  pub after : next ≡ after l
  pub says : Says l (Ok (Some t)) next
  pub placed : IsPlaced l (Ok (Some t)) next
