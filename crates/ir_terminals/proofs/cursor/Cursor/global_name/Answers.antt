use Rattle.std.proofs.Common.{[], ◌∷◌, refl}
use Rattle.ir_lexer.specs.declared.token.TokenKind.TheVariants as kind
use Rattle.ir_terminals.specs.Values.{if_global}
use Rattle.ir_terminals.proofs.Taking.{took_kind}
use Rattle.ir_terminals.proofs.cursor.Cursor.global_name.Goals as goal

pub returns : goal.returns
returns c =
    took_kind (3 ∷ []) if_global kind.GlobalName _ c.args.self.now _ (λ s. refl) (rw c.in-Some-GlobalName.field-0-is at c.in-Some-GlobalName.ensures) c.advance.ensures (λ t place token. rw (place, token, ← c.place-place.ensures, ← c.in_ok-name.ensures) refl)
