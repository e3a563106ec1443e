use Rattle.std.proofs.Common.{◌≡◌, [], ◌∷◌, true, refl, sym, ap, ◌∙◌}
use Rattle.ir_lexer.specs.declared.token.TokenKind.TheVariants as kind
use Rattle.ir_terminals.specs.Values.{if_named}
use Rattle.ir_terminals.specs.declared.limits.Limits.{Limits}
use Rattle.ir_terminals.proofs.Taking.{took_kind}
use Rattle.ir_terminals.proofs.cursor.Cursor.named_local.Goals as goal

pub returns-in_ok-name-in-Some-LocalName :
    goal.returns-in_ok-name-in-Some-LocalName
returns-in_ok-name-in-Some-LocalName c =
    took_kind (4 ∷ []) (if_named c.args.self.now.limits.with_left_out) kind.LocalName _ c.args.self.now _ (λ s. refl) (rw c.in-Some-LocalName.field-0-is at c.in-Some-LocalName.ensures) c.advance.ensures (λ t place token. rw (place, token, ← c.place-place.ensures, ← c.in_ok-name-in-Some-LocalName.ensures) refl)

pub returns-in_ok-name-in-Some-UnnamedLocal :
    goal.returns-in_ok-name-in-Some-UnnamedLocal
returns-in_ok-name-in-Some-UnnamedLocal c =
    let with_left_out : c.args.self.now.limits.with_left_out ≡ true = sym (ap (λ (l : Limits). l.with_left_out) c.limits.ensures) ∙ c.if-limits.true in
    took_kind (4 ∷ []) (if_named c.args.self.now.limits.with_left_out) kind.UnnamedLocal _ c.args.self.now _ (λ s. refl) (rw c.in-Some-UnnamedLocal.field-0-is at c.in-Some-UnnamedLocal.ensures) c.advance-in-Some-UnnamedLocal.ensures (λ t place token. rw (with_left_out, place, token, ← c.place-place.ensures, ← c.spelling.ensures.bytes, c.in_ok-name-in-Some-UnnamedLocal.ensures) refl)
