use Rattle.ir_lexer.specs.declared.token.TokenKind.TheVariants as kind
use Rattle.ir_printer.proofs.variable.put_constness.Goals as goal

pub returns-then-constant : goal.returns-then-constant
returns-then-constant g c = rw c.if-constant.true (c.put_token.ensures kind.Word)

pub returns-else-constant : goal.returns-else-constant
returns-else-constant g c = rw c.if-constant.false (c.put_token-else-constant.ensures kind.Word)
