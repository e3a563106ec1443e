-- The two wider languages go on where the language does, or at the tokens that tell them apart from it.
use Rattle.std.proofs.Common.{◌≡◌, [], ◌∷◌, true, false, ◌⊎◌, inl, inr, refl, None}
use Rattle.std.proofs.lemmas.Bool.{or_right}
use Rattle.ir_lexer.specs.Ahead.{Located}
use Rattle.ir_lexer.specs.declared.token.TokenKind.{TokenKind}
use Rattle.ir_lexer.specs.declared.token.TokenKind.TheVariants as kind
use Rattle.ir_terminals.specs.declared.terminal.Terminal.TheVariants as terminal
use Rattle.ir_terminals.specs.Role.{class}
use Rattle.ir_terminals.specs.Terminal.{code}
use Rattle.ir_terminals.specs.Tokens.{named_local_row}
use Rattle.ir_terminals.specs.Values.{if_named, named_local_of}
use Rattle.ir_syntax.specs.Functions.{dots_row}
use Rattle.ir_syntax.specs.Items.{items_row, language}
use Rattle.ir_syntax.specs.Refusal.{deeper, wider}
use Rattle.ir_syntax.specs.Widths.{opens_nest, is_of_wider}
use Rattle.ir_syntax.proofs.Widened.{IsWidened, widened_same, widened_one}
use Rattle.ir_syntax.proofs.WidenedConstants.{IsWider, as_deep, one_deeper}
use Rattle.ir_syntax.proofs.WidenedItems.{widened_items}

language_deeper : IsWider opens_nest language deeper
language_deeper = record { names = widened_same (named_local_row language); nests = one_deeper opens_nest (λ t b. b) 64; some = λ e. absurd cc }

-- with one nest more
pub deeper_items : IsWidened opens_nest (items_row language) (items_row deeper)
deeper_items = widened_items language_deeper (widened_same (dots_row false))

name_by : (t : Located) (k : TokenKind) → t.token.kind ≡ k → (if_named true k t ≡ if_named false k t) ⊎ ((if_named false k t ≡ None) × (is_of_wider t ≡ true))
name_by t kind.UnnamedLocal e = inr (refl, rw e refl)
name_by t _ e = inl refl

language_wider : IsWider is_of_wider language wider
language_wider = record {
  names = widened_one class (code terminal.Local ∷ []) (named_local_of false) (named_local_of true) (λ t b. name_by t t.token.kind refl);
  nests = as_deep is_of_wider 64;
  some = λ e. absurd cc;
}

wider_dots : IsWidened is_of_wider (dots_row false) (dots_row true)
wider_dots = widened_one class (code terminal.Dots ∷ []) _ _ (λ t b. inr (refl, or_right _ _ b))

-- with unnamed locals for structs, and `...` behind a definition's parameters
pub wider_items : IsWidened is_of_wider (items_row language) (items_row wider)
wider_items = widened_items language_wider wider_dots
