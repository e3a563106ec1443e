use Rattle.ir_lexer.specs.declared.token.TokenKind.TheVariants as kind
use Rattle.ir_printer.proofs.structs.put_body.Goals as goal

pub returns-in-None : goal.returns-in-None
returns-in-None g c = rw c.in-None.is (c.put_token.ensures kind.Word)
