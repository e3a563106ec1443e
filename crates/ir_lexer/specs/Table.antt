-- For `next` of `Lexer` and `name_of`: the table of the tokens.
use Rattle.std.specs.Prelude.{◌≡◌, ℕ, Bool, List}
use Rattle.ir_lexer.specs.Class.{is_letter, starts_word, in_word, starts_name, in_name, is_digit, is_minus, is_dot, is_quote, no_quote, is_at, is_percent, is_bang, is_hash, is_colon, is_punctuation, is_c}
use Rattle.ir_lexer.specs.Form.{Form, Done, One, Run, Upto, Spells, anything}
use Rattle.ir_lexer.specs.Quoted.{is_text, is_name}
use Rattle.ir_lexer.specs.declared.class.Class.{Class}
use Rattle.ir_lexer.specs.declared.token.TokenKind.{TokenKind}
use Rattle.ir_lexer.specs.declared.token.TokenKind.TheVariants as k

-- the rows of the table: some kinds of tokens have several
pub data TokenRow : Type 0 where
  Label : TokenRow
  QuotedLabel : TokenRow
  Word : TokenRow
  Digits : TokenRow
  Negative : TokenRow
  GlobalName : TokenRow
  QuotedGlobal : TokenRow
  LocalName : TokenRow
  QuotedLocal : TokenRow
  UnnamedGlobal : TokenRow
  UnnamedLocal : TokenRow
  Quoted : TokenRow
  ByteString : TokenRow
  MetaName : TokenRow
  MetaNumber : TokenRow
  MetaMark : TokenRow
  Group : TokenRow
  RecordMark : TokenRow
  Punctuation : TokenRow
  Dots : TokenRow

-- the kind of the tokens of a row
abbrev pub kind_of : TokenRow → TokenKind
kind_of Label = k.Label
kind_of QuotedLabel = k.Label
kind_of Word = k.Word
kind_of Digits = k.Integer
kind_of Negative = k.Integer
kind_of GlobalName = k.GlobalName
kind_of QuotedGlobal = k.GlobalName
kind_of LocalName = k.LocalName
kind_of QuotedLocal = k.LocalName
kind_of UnnamedGlobal = k.UnnamedGlobal
kind_of UnnamedLocal = k.UnnamedLocal
kind_of Quoted = k.Quoted
kind_of ByteString = k.ByteString
kind_of MetaName = k.MetaName
kind_of MetaNumber = k.MetaNumber
kind_of MetaMark = k.MetaMark
kind_of Group = k.Group
kind_of RecordMark = k.RecordMark
kind_of Punctuation = k.Punctuation
kind_of Dots = k.Punctuation

-- what it begins with
abbrev pub starts : TokenRow → Class → Bool
starts Label = in_name
starts QuotedLabel = is_quote
starts Word = starts_word
starts Digits = is_digit
starts Negative = is_minus
starts GlobalName = is_at
starts QuotedGlobal = is_at
starts LocalName = is_percent
starts QuotedLocal = is_percent
starts UnnamedGlobal = is_at
starts UnnamedLocal = is_percent
starts Quoted = is_quote
starts ByteString = is_c
starts MetaName = is_bang
starts MetaNumber = is_bang
starts MetaMark = is_bang
starts Group = is_hash
starts RecordMark = is_hash
starts Punctuation = is_punctuation
starts Dots = is_dot

-- [-a-zA-Z$._][-a-zA-Z$._0-9]*
abbrev pub identifier : Form
identifier = One starts_name (Run in_name)

-- [0-9]+
abbrev pub digits : Form
digits = One is_digit (Run is_digit)

-- what comes behind the first quote of a string
abbrev pub inside : (List ℕ → Bool) → Form → Form
inside test f = Upto no_quote test is_quote f

-- " and what passes a test up to the next "
abbrev pub string : (List ℕ → Bool) → Form
string test = One is_quote (inside test Done)

-- what comes behind the first byte
abbrev pub tail_of : TokenRow → Form
tail_of Label = Upto in_name anything is_colon Done
tail_of QuotedLabel = inside is_name (One is_colon Done)
tail_of Word = Run in_word
tail_of Digits = Run is_digit
tail_of Negative = digits
tail_of GlobalName = identifier
tail_of QuotedGlobal = string is_name
tail_of LocalName = identifier
tail_of QuotedLocal = string is_name
tail_of UnnamedGlobal = digits
tail_of UnnamedLocal = digits
tail_of Quoted = inside is_text Done
tail_of ByteString = string is_text
tail_of MetaName = identifier
tail_of MetaNumber = digits
tail_of MetaMark = Done
tail_of Group = digits
tail_of RecordMark = One is_letter (Run in_word)
tail_of Punctuation = Done
tail_of Dots = One is_dot (One is_dot Done)

-- these bytes spell a token of the row
abbrev pub SpellsRow : TokenRow → List ℕ → Type 0
SpellsRow r s = Spells (One (starts r) (tail_of r)) s

-- these bytes spell a token of the kind
pub record IsToken (kind : TokenKind) (spelling : List ℕ) : Type 0 where
  pub row : TokenRow
  pub kind_is : kind_of row ≡ kind
  pub spelled : SpellsRow row spelling
