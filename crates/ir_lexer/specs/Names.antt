-- For `name_of`, `is_number`, `is_quoted` and `unquote`: the bytes that a quoted spelling stands for, and the names
-- that labels, globals and locals spell.
use Rattle.std.specs.Prelude.{◌≡◌, ℕ, suc, ◌-◌, Bool, true, false, cond, List, length, take, drop, Option, Some}
use Rattle.ir_lexer.specs.Class.{is_digit, is_quote, no_quote, starts_with}
use Rattle.ir_lexer.specs.Form.{each, run}
use Rattle.ir_lexer.specs.Quoted.{decode}
use Rattle.ir_lexer.specs.Table.{TokenRow, QuotedLabel, QuotedGlobal, QuotedLocal, Quoted, ByteString, SpellsRow}
use Rattle.ir_lexer.specs.Tokens.{Spelled}
use Rattle.ir_lexer.specs.declared.quoted.Escape.TheVariants.{Plain}
use Rattle.ir_lexer.specs.declared.token.TokenKind.{TokenKind}
use Rattle.ir_lexer.specs.declared.token.TokenKind.TheVariants as k

-- whether a token of the row has a string in it
abbrev pub has_string : TokenRow → Bool
has_string QuotedLabel = true
has_string QuotedGlobal = true
has_string QuotedLocal = true
has_string Quoted = true
has_string ByteString = true
has_string _ = false

-- the whole spelling of a token that has a string in it: `"a"`, `c"a"`, `@"a"`, `%"a"`, `"a":`
pub record IsQuoted (spelling : List ℕ) : Type 0 where
  pub row : TokenRow
  pub string : has_string row ≡ true
  pub spelled : SpellsRow row spelling

-- what stands behind the first quote
abbrev pub behind_quote : List ℕ → List ℕ
behind_quote s = drop (suc (run no_quote s)) s

-- what stands between the first quote and the next
abbrev pub between_quotes : List ℕ → List ℕ
between_quotes s = take (run no_quote (behind_quote s)) (behind_quote s)

-- the bytes that a quoted spelling stands for
abbrev pub unquoted : List ℕ → Option (List ℕ)
unquoted s = decode Plain (between_quotes s)

-- whether a quote is among the first two bytes, as in each quoted spelling and in no other
abbrev pub is_quoted : List ℕ → Bool
is_quoted s = cond (starts_with is_quote s) true (starts_with is_quote (drop 1 s))

-- the kinds of tokens that name something
abbrev pub has_name : TokenKind → Bool
has_name k.Label = true
has_name k.GlobalName = true
has_name k.LocalName = true
has_name _ = false

-- the name that a spelling without quotes has: a label's without the colon, that of a global or a local without the mark
abbrev pub bare_name : TokenKind → List ℕ → List ℕ
bare_name k.Label s = take (length s - 1) s
bare_name kind s = drop 1 s

-- the name that a label, a global name or a local name spells
abbrev pub name_in : Spelled → Option (List ℕ)
name_in t = cond (is_quoted t.spelling) (unquoted t.spelling) (Some (bare_name t.kind t.spelling))

-- whether the spelling of a label is a number: digits alone, and the colon; a quoted one never is
abbrev pub is_number : List ℕ → Bool
is_number s = each is_digit (bare_name k.Label s)
