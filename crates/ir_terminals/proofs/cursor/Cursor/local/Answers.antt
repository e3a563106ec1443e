use Rattle.std.proofs.Common.{[], ◌∷◌, refl}
use Rattle.ir_lexer.specs.declared.token.TokenKind.TheVariants as kind
use Rattle.ir_terminals.specs.Values.{if_local}
use Rattle.ir_terminals.proofs.Taking.{took_kind}
use Rattle.ir_terminals.proofs.cursor.Cursor.local.Goals as goal

pub returns-in_ok-name-in-Some-LocalName :
    goal.returns-in_ok-name-in-Some-LocalName
returns-in_ok-name-in-Some-LocalName c =
    took_kind (4 ∷ []) if_local kind.LocalName _ c.args.self.now _ (λ s. refl) (rw c.in-Some-LocalName.field-0-is at c.in-Some-LocalName.ensures) c.advance.ensures (λ t place token. rw (place, token, ← c.place-place.ensures, ← c.in_ok-name-in-Some-LocalName.ensures) refl)

pub returns-in_ok-number-in-Some-UnnamedLocal :
    goal.returns-in_ok-number-in-Some-UnnamedLocal
returns-in_ok-number-in-Some-UnnamedLocal c =
    took_kind (4 ∷ []) if_local kind.UnnamedLocal _ c.args.self.now _ (λ s. refl) (rw c.in-Some-UnnamedLocal.field-0-is at c.in-Some-UnnamedLocal.ensures) c.advance-in-Some-UnnamedLocal.ensures (λ t place token. rw (place, token, ← c.place-place.ensures, ← c.spelling.ensures.bytes, c.in_ok-number-in-Some-UnnamedLocal.ensures) refl)
