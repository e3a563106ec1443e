use Rattle.std.proofs.Common.{[], ◌∷◌, refl, sym, ap, Some}
use Rattle.ir_lexer.specs.declared.token.TokenKind.TheVariants as kind
use Rattle.ir_terminals.specs.Values.{if_integer}
use Rattle.ir_terminals.proofs.Taking.{took_kind}
use Rattle.ir_terminals.proofs.cursor.Cursor.integer.Goals as goal

pub returns : goal.returns
returns c =
    took_kind (2 ∷ []) if_integer kind.Integer _ c.args.self.now _ (λ s. refl) (rw c.in-Some-Integer.field-0-is at c.in-Some-Integer.ensures) c.advance.ensures (λ t place token. rw (place, token, ← c.place.ensures, ← c.spelling.ensures.bytes) (ap Some (sym c.in_ok-integer.ensures)))
