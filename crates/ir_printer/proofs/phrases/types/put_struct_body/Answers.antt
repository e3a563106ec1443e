use Rattle.ir_lexer.specs.declared.token.TokenKind.TheVariants as kind
use Rattle.ir_printer.proofs.phrases.types.put_struct_body.Goals as goal

pub returns-in-Opaque : goal.returns-in-Opaque
returns-in-Opaque g c = rw c.in-Opaque.is (c.put_token.ensures kind.Word)
