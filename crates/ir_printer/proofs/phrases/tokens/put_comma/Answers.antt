use Rattle.std.proofs.Common.{sym, arith}
use Rattle.ir_lexer.specs.declared.token.TokenKind.TheVariants as kind
use Rattle.ir_printer.proofs.OnPhrases.Printing.{prints_same, comma_some}
use Rattle.ir_printer.proofs.phrases.tokens.put_comma.Goals as goal

pub returns-then-others-gt0 : goal.returns-then-others-gt0
returns-then-others-gt0 g c = prints_same (sym (comma_some c.args.others (omega arith))) (c.put_token.ensures kind.Punctuation)
