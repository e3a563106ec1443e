use Rattle.std.proofs.Common.{[], ◌∷◌, refl, sym}
use Rattle.ir_lexer.specs.declared.token.TokenKind.TheVariants as kind
use Rattle.ir_terminals.specs.Values.{if_label}
use Rattle.ir_terminals.proofs.Taking.{took_kind}
use Rattle.ir_terminals.proofs.cursor.Cursor.label.Goals as goal

pub returns : goal.returns
returns c =
    took_kind (1 ∷ []) if_label kind.Label _ c.args.self.now _ (λ s. refl) (rw c.in-Some-Label.field-0-is at c.in-Some-Label.ensures) c.advance.ensures (λ t place token. rw (place, token, ← c.place.ensures, ← c.spelling.ensures.bytes) (sym c.in_ok-label.ensures))
