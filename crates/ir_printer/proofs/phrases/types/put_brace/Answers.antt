use Rattle.std.proofs.Common.{sym, arith}
use Rattle.ir_lexer.specs.declared.token.TokenKind.TheVariants as kind
use Rattle.ir_printer.proofs.OnPhrases.Printing.{prints_same, brace_none, brace_some}
use Rattle.ir_printer.proofs.phrases.types.put_brace.Goals as goal

pub returns-then-count-eq0 : goal.returns-then-count-eq0
returns-then-count-eq0 g c = prints_same (sym (brace_none c.args.count (omega arith))) (c.put_token.ensures kind.Punctuation)

pub returns-else-count-eq0 : goal.returns-else-count-eq0
returns-else-count-eq0 g c = prints_same (sym (brace_some c.args.count (omega arith))) (c.put_token-else-count-eq0.ensures kind.Punctuation)
