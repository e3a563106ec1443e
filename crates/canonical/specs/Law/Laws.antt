-- For `pieces_are_tokens`, `tokens_are_items` and `one_list_of_items`: the laws of canonical text.
use Rattle.std.specs.Prelude.{◌≡◌, ℕ, List}
use Rattle.ir_lexer.specs.Pieces.{tokens_of}
use Rattle.ir_lexer.specs.Tokens.{Tokens}
use Rattle.ir_syntax.specs.Tree.{ItemTree}
use Rattle.type_table.specs.declared.measure.TheConstants.{NESTING_LIMIT}
use Rattle.module_arena.specs.Module.{Module}
use Rattle.canonical.specs.Canonical.{canon_pieces, canon}
use Rattle.canonical.specs.Items.Items.{canon_items, HasItemsAs}
use Rattle.canonical.specs.Law.Texts.{IsWritable}

-- the tokens of the canonical text of a module that can be written are the spellings of its pieces
abbrev pub PiecesAreItsTokens : Type 0
PiecesAreItsTokens = (m : Module) → IsWritable NESTING_LIMIT m → Tokens (canon m) (tokens_of (canon_pieces m))

-- these tokens are its items, but for their places
abbrev pub ItemsAreRead : Type 0
ItemsAreRead = (m : Module) → IsWritable NESTING_LIMIT m → HasItemsAs (canon m) (canon_items m)

-- a text has at most one list of items, but for the places of their tokens
abbrev pub ItemsAreOnce : Type 0
ItemsAreOnce = (text : List ℕ) (items others : List ItemTree) → HasItemsAs text items → HasItemsAs text others → items ≡ others
