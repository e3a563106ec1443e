-- Canonical text is read as its items.
use Rattle.std.proofs.Common.{◌≡◌, ℕ, List, [], map, sym, ap, subst, ◌∙◌, append-nil, inl, inr}
use Rattle.std.proofs.lemmas.Bool.{cases_Bool}
use Rattle.ir_lexer.specs.Ahead.{Located, tokens_in}
use Rattle.ir_lexer.specs.Lexer.{at_start}
use Rattle.ir_lexer.specs.Pieces.{Line, AreSound, tokens_of}
use Rattle.ir_lexer.specs.Tokens.{Spelled, Tokens}
use Rattle.ir_lexer.proofs.AheadSteps.{ahead_is}
use Rattle.ir_lexer.proofs.Lexed.{pieces_are}
use Rattle.ir_lexer.proofs.TokenLists.{one_list, list_or_bad_not_both}
use Rattle.ir_terminals.proofs.OnPhraseRows.Answer.{answered_whole}
use Rattle.ir_terminals.specs.Position.{text_tokens, is_cut_off}
use Rattle.ir_terminals.specs.Role.{class}
use Rattle.ir_syntax.specs.Items.{items_row, language}
use Rattle.ir_syntax.specs.Tree.{ItemTree}
use Rattle.ir_syntax.proofs.Grammar.{reads_items}
use Rattle.module_arena.specs.Module.{Module}
use Rattle.canonical.specs.Canonical.{canon_pieces, canon}
use Rattle.canonical.specs.Items.Unplaced.{unplaced}
use Rattle.canonical.specs.Law.Texts.{IsWritable}
use Rattle.canonical.specs.Law.Laws.{PiecesAreItsTokens, ItemsAreRead, ItemsAreOnce}
use Rattle.canonical.proofs.OnLaw.Items.{printed_items}

sound : (m : Module) → IsWritable 64 m → AreSound (canon_pieces m)
sound m h = subst AreSound (append-nil (canon_pieces m)) ((printed_items language m h).spaced.sound Line [] tt tt)

pub pieces_are_its_tokens : PiecesAreItsTokens
pieces_are_its_tokens m h = pieces_are (canon_pieces m) (sound m h)

-- the tokens that a lexer answers are the only ones
the_tokens : (text : List ℕ) (ts : List Spelled) → Tokens text ts → Tokens text (tokens_in (text_tokens text)) × (tokens_in (text_tokens text) ≡ ts)
the_tokens text ts h =
    let a = ahead_is (at_start text) in
    elim (cases_Bool (is_cut_off text)) [
      | inl e ↦ absurd (list_or_bad_not_both text ts (tokens_in (text_tokens text)) h (a.1 e))
      | inr e ↦ (a.0 e, one_list text (tokens_in (text_tokens text)) ts (a.0 e) h)
    ]

pub items_are_read : ItemsAreRead
items_are_read m h =
    let t = the_tokens (canon m) (tokens_of (canon_pieces m)) (pieces_are_its_tokens m h) in
    let w = (printed_items language m h).whole Line (text_tokens (canon m)) t.1 in
    record { placed = w.0; has = record { are_tokens = t.0; are_items = w.1 }; same = w.2 }

same_items : (ts : List Located) (items others : List ItemTree) → (items_row language).whole ts items → (items_row language).whole ts others → items ≡ others
same_items ts items others h k =
    let a = answered_whole class (items_row language) (items_row language).shape (reads_items language) ts items h in
    let b = answered_whole class (items_row language) (items_row language).shape (reads_items language) ts others k in
    cc

pub items_are_once : ItemsAreOnce
items_are_once text items others h k = sym h.same ∙ ap (map unplaced) (same_items (text_tokens text) h.placed k.placed h.has.are_items k.has.are_items) ∙ k.same
