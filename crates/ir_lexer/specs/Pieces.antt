-- For `pieces_are_tokens`: text in pieces: spellings with separators, where no spelling can go on into what follows it.
use Rattle.std.specs.Prelude.{◌≡◌, ℕ, Bool, true, false, cond, List, [], ◌∷◌, ◌++◌}
use Rattle.ir_lexer.specs.Class.{starts_with, in_word, in_name, is_digit, is_dot, is_quote, is_colon}
use Rattle.ir_lexer.specs.Table.{IsToken}
use Rattle.ir_lexer.specs.Tokens.{Spelled}
use Rattle.ir_lexer.specs.declared.class.Class.{Class}
use Rattle.ir_lexer.specs.declared.token.TokenKind.{TokenKind}
use Rattle.ir_lexer.specs.declared.token.TokenKind.TheVariants as k

-- what may not follow a token of the kind, whose spelling begins with a dot or not
abbrev pub barred : TokenKind → Bool → List (Class → Bool)
barred k.Word dots = in_name ∷ is_colon ∷ is_quote ∷ []
barred k.Integer dots = in_name ∷ is_colon ∷ []
barred k.GlobalName dots = in_name ∷ []
barred k.LocalName dots = in_name ∷ []
barred k.UnnamedGlobal dots = is_digit ∷ []
barred k.UnnamedLocal dots = is_digit ∷ []
barred k.Quoted dots = is_colon ∷ []
barred k.MetaName dots = in_name ∷ []
barred k.MetaNumber dots = is_digit ∷ []
barred k.MetaMark dots = in_name ∷ []
barred k.Group dots = is_digit ∷ []
barred k.RecordMark dots = in_word ∷ []
barred k.Punctuation dots = cond dots (in_name ∷ is_colon ∷ []) []
barred k.Label dots = []
barred k.ByteString dots = []

-- the text begins with none of these classes
abbrev pub with_none : List (Class → Bool) → List ℕ → Bool
with_none [] rest = true
with_none (p ∷ ps) rest = cond (starts_with p rest) false (with_none ps rest)

-- the token does not go on into the rest
abbrev pub can_follow : Spelled → List ℕ → Bool
can_follow t rest = with_none (barred t.kind (starts_with is_dot t.spelling)) rest

-- what may stand between two tokens: nothing, a space, a line feed, or a line feed and two spaces
pub data Separator : Type 0 where
  Nothing : Separator
  Space : Separator
  Line : Separator
  Indented : Separator

-- the bytes of a separator
abbrev pub separator_bytes : Separator → List ℕ
separator_bytes Nothing = []
separator_bytes Space = 32 ∷ []
separator_bytes Line = 10 ∷ []
separator_bytes Indented = 10 ∷ 32 ∷ 32 ∷ []

-- a token and what stands behind it
pub record TextPiece : Type 0 where
  pub token : Spelled
  pub separator : Separator

-- the text that the pieces make
abbrev pub pieces_text : List TextPiece → List ℕ
pieces_text [] = []
pieces_text (p ∷ ps) = p.token.spelling ++ (separator_bytes p.separator ++ pieces_text ps)

-- the tokens of the pieces
abbrev pub tokens_of : List TextPiece → List Spelled
tokens_of [] = []
tokens_of (p ∷ ps) = p.token ∷ tokens_of ps

-- each piece is a token that can stand before what follows it
abbrev pub AreSound : List TextPiece → Type 0
AreSound [] = Unit {0}
AreSound (p ∷ ps) = IsToken p.token.kind p.token.spelling × (can_follow p.token (separator_bytes p.separator ++ pieces_text ps) ≡ true) × AreSound ps
