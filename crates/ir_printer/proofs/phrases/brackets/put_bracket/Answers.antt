use Rattle.ir_lexer.specs.declared.token.TokenKind.TheVariants as kind
use Rattle.ir_printer.proofs.phrases.brackets.put_bracket.Goals as goal

pub returns-in-Square : goal.returns-in-Square
returns-in-Square g c = rw c.in-Square.is (c.put_token.ensures kind.Punctuation)
