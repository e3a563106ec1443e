use Rattle.ir_lexer.specs.declared.token.TokenKind.TheVariants as kind
use Rattle.ir_printer.proofs.phrases.integers.put_truth.Goals as goal

pub returns-then-value : goal.returns-then-value
returns-then-value g c = rw c.if-value.true (c.put_token.ensures kind.Word)

pub returns-else-value : goal.returns-else-value
returns-else-value g c = rw c.if-value.false (c.put_token-else-value.ensures kind.Word)
