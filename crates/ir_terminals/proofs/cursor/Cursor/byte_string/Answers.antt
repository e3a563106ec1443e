use Rattle.std.proofs.Common.{[], ◌∷◌, refl}
use Rattle.ir_lexer.specs.declared.token.TokenKind.TheVariants as kind
use Rattle.ir_terminals.specs.Values.{if_bytes}
use Rattle.ir_terminals.proofs.Taking.{took_kind, byte_string}
use Rattle.ir_terminals.proofs.cursor.Cursor.byte_string.Goals as goal

pub text_at-requires : goal.text_at-requires
text_at-requires c =
    byte_string _ _ (rw c.in-Some-ByteString.field-0-is at c.in-Some-ByteString.ensures) c.spelling.ensures.token c.spelling.ensures.bytes

pub returns : goal.returns
returns c =
    took_kind (6 ∷ []) if_bytes kind.ByteString _ c.args.self.now _ (λ s. refl) (rw c.in-Some-ByteString.field-0-is at c.in-Some-ByteString.ensures) c.advance.ensures (λ t place token. rw (place, token, ← c.place-place.ensures, ← c.spelling.ensures.bytes, ← c.in_ok-text.ensures) refl)
