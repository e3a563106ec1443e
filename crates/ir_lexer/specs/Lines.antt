-- Says how the code reads: places in one line, and which tokens may go over several: those with a string in them.
use Rattle.std.specs.Prelude.{ℕ, ◌+◌, Bool, true, false, ◌&&◌, List}
use Rattle.ir_base.specs.declared.place.Place.{Place}
use Rattle.ir_lexer.specs.Names.{is_quoted}
use Rattle.ir_lexer.specs.declared.token.TokenKind.{TokenKind}
use Rattle.ir_lexer.specs.declared.token.TokenKind.TheVariants as k

-- so many bytes further on in the same line
abbrev pub further_in_line : Place → ℕ → Place
further_in_line p n = record { line = p.line; column = p.column + n }

-- some tokens of the kind have a string in them
abbrev pub may_have_string : TokenKind → Bool
may_have_string k.Label = true
may_have_string k.GlobalName = true
may_have_string k.LocalName = true
may_have_string k.Quoted = true
may_have_string k.ByteString = true
may_have_string _ = false

-- a token of the kind with this spelling has a string in it
abbrev pub has_string_in : TokenKind → List ℕ → Bool
has_string_in kind s = may_have_string kind && is_quoted s
