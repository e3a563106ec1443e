-- For `terminal_of`, and `terminal` of `Cursor`: what a token is to the phrases of the language.
use Rattle.std.specs.Prelude.{ℕ, List, [], ◌∷◌, codes}
use Rattle.ir_lexer.specs.Ahead.{Located}
use Rattle.ir_lexer.specs.Tokens.{Spelled}
use Rattle.ir_lexer.specs.declared.token.TokenKind.{TokenKind}
use Rattle.ir_lexer.specs.declared.token.TokenKind.TheVariants as kind
use Rattle.ir_terminals.specs.Terminal.{code}
use Rattle.ir_terminals.specs.Words.{Meaning, means, meaning_in, word_terminal}
use Rattle.ir_terminals.specs.declared.terminal.Terminal.{Terminal}
use Rattle.ir_terminals.specs.declared.terminal.Terminal.TheVariants as terminals

-- the marks that have a role
abbrev pub marks : List Meaning
marks =
    means (codes "=") terminals.Equals ∷
    means (codes ",") terminals.Comma ∷
    means (codes "(") terminals.OpenParenthesis ∷
    means (codes ")") terminals.CloseParenthesis ∷
    means (codes "[") terminals.OpenBracket ∷
    means (codes "]") terminals.CloseBracket ∷
    means (codes "{") terminals.OpenBrace ∷
    means (codes "}") terminals.CloseBrace ∷
    means (codes "<") terminals.Less ∷
    means (codes ">") terminals.Greater ∷
    means (codes "...") terminals.Dots ∷
    []

-- what a token of this kind and spelling is
abbrev pub terminal_in : TokenKind → List ℕ → Terminal
terminal_in kind.Label spelling = terminals.Label
terminal_in kind.Word spelling = word_terminal spelling
terminal_in kind.Integer spelling = terminals.Integer
terminal_in kind.GlobalName spelling = terminals.GlobalName
terminal_in kind.LocalName spelling = terminals.Local
terminal_in kind.UnnamedGlobal spelling = terminals.Other
terminal_in kind.UnnamedLocal spelling = terminals.Local
terminal_in kind.Quoted spelling = terminals.Quoted
terminal_in kind.ByteString spelling = terminals.ByteString
terminal_in kind.MetaName spelling = terminals.MetaName
terminal_in kind.MetaNumber spelling = terminals.MetaNumber
terminal_in kind.MetaMark spelling = terminals.MetaMark
terminal_in kind.Group spelling = terminals.Group
terminal_in kind.RecordMark spelling = terminals.Other
terminal_in kind.Punctuation spelling = meaning_in marks spelling

-- what a token is, by its kind and its spelling
unfoldable pub terminal : Spelled → Terminal
terminal token = terminal_in token.kind token.spelling

-- the class of a token, by which phrases tell tokens apart
abbrev pub class : Located → ℕ
class t = code (terminal t.token)
