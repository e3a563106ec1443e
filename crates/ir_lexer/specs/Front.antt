-- For `next` of `Lexer`, and how the code reads: the token at the front of a text, by its first byte.
use Rattle.std.specs.Prelude.{ℕ, suc, Bool, ◌&&◌, cond, List, [], ◌∷◌, Option, Some, None}
use Rattle.ir_lexer.specs.Class.{byte_class, starts_with, is_c, is_quote}
use Rattle.ir_lexer.specs.Form.{longest}
use Rattle.ir_lexer.specs.Table.{TokenRow, Label, QuotedLabel, Word, Digits, Negative, GlobalName, QuotedGlobal, LocalName, QuotedLocal, UnnamedGlobal, UnnamedLocal, Quoted, ByteString, MetaName, MetaNumber, MetaMark, Group, RecordMark, Punctuation, Dots, kind_of, tail_of}
use Rattle.ir_lexer.specs.declared.class.Class.{Class}
use Rattle.ir_lexer.specs.declared.class.Class.TheVariants as c
use Rattle.ir_lexer.specs.declared.token.TokenKind.{TokenKind}
use Rattle.ir_lexer.specs.declared.token.TokenKind.TheVariants as k

-- what may begin with a byte of the class, in the order in which it is tried
abbrev pub rows_of : Class → List TokenRow
rows_of c.LetterC = Label ∷ ByteString ∷ Word ∷ []
rows_of c.Letter = Label ∷ Word ∷ []
rows_of c.Underscore = Label ∷ Word ∷ []
rows_of c.Digit = Label ∷ Digits ∷ []
rows_of c.Minus = Label ∷ Negative ∷ []
rows_of c.Dollar = Label ∷ []
rows_of c.Dot = Label ∷ Dots ∷ []
rows_of c.Quote = QuotedLabel ∷ Quoted ∷ []
rows_of c.At = GlobalName ∷ QuotedGlobal ∷ UnnamedGlobal ∷ []
rows_of c.Percent = LocalName ∷ QuotedLocal ∷ UnnamedLocal ∷ []
rows_of c.Bang = MetaName ∷ MetaNumber ∷ MetaMark ∷ []
rows_of c.Hash = Group ∷ RecordMark ∷ []
rows_of c.Colon = Punctuation ∷ []
rows_of c.Mark = Punctuation ∷ []
rows_of _ = []

-- a token of this kind, where it is found, or else the other
abbrev pub or_else : TokenKind → Option ℕ → Option (TokenKind × ℕ) → Option (TokenKind × ℕ)
or_else kind (Some n) other = Some (kind, suc n)
or_else kind None other = other

-- the first of the rows that the bytes behind the first one let be, with its length
abbrev pub first_of : List TokenRow → List ℕ → Option (TokenKind × ℕ)
first_of [] bs = None
first_of (r ∷ rs) bs = or_else (kind_of r) (longest (tail_of r) bs) (first_of rs bs)

-- what was found, but no word where a quote cuts it off
abbrev pub unless_cut : Bool → Option (TokenKind × ℕ) → Option (TokenKind × ℕ)
unless_cut cut None = None
unless_cut cut (Some (k.Word, n)) = cond cut None (Some (k.Word, n))
unless_cut cut (Some (kind, n)) = Some (kind, n)

-- what begins with the byte, before these bytes
abbrev pub token_from : Class → List ℕ → Option (TokenKind × ℕ)
token_from x bs = unless_cut (is_c x && starts_with is_quote bs) (first_of (rows_of x) bs)

-- the kind and the length of the token at the front
unfoldable pub next_token : List ℕ → Option (TokenKind × ℕ)
next_token [] = None
next_token (b ∷ bs) = token_from (byte_class b) bs
