-- Says how the code reads: at which tokens `read_items` reads a refused text once more: those at which a wider language
-- can go on.
use Rattle.std.specs.Prelude.{◌||◌, Bool, true, false, List, [], ◌∷◌}
use Rattle.ir_terminals.specs.PhraseRows.Row.{among}
use Rattle.ir_lexer.specs.Ahead.{Located}
use Rattle.ir_lexer.specs.declared.token.TokenKind.{TokenKind}
use Rattle.ir_lexer.specs.declared.token.TokenKind.TheVariants as kind
use Rattle.ir_terminals.specs.declared.terminal.Terminal.TheVariants as terminal
use Rattle.ir_terminals.specs.Role.{class}
use Rattle.ir_terminals.specs.Terminal.{code}
use Rattle.ir_phrases.specs.Constants.Constants.{holder_shape}

-- it begins a type or a constant that holds others: `[`, `{`, `<`, or the opcode of a constant expression
abbrev pub opens_nest : Located → Bool
opens_nest t = among (class t) holder_shape.first

-- a local that has a number for a name
abbrev pub is_unnamed : TokenKind → Bool
is_unnamed kind.UnnamedLocal = true
is_unnamed _ = false

-- the wider language has it in more places: an unnamed local, or `...`
abbrev pub is_of_wider : Located → Bool
is_of_wider t = is_unnamed t.token.kind || among (class t) (code terminal.Dots ∷ [])

-- whether there is a token, and this holds for the first one
abbrev pub is_first : (Located → Bool) → List Located → Bool
is_first holds [] = false
is_first holds (t ∷ ts) = holds t
