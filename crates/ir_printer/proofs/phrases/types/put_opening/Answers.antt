use Rattle.std.specs.Prelude.{codes}
use Rattle.ir_lexer.specs.Pieces.{Nothing}
use Rattle.ir_lexer.specs.declared.token.TokenKind.TheVariants as kind
use Rattle.canonical.specs.Phrase.{mark}
use Rattle.ir_printer.specs.Phrases.Printing.{brace}
use Rattle.ir_printer.proofs.OnPhrases.Printing.{prints_then}
use Rattle.ir_printer.proofs.phrases.types.put_opening.Goals as goal

pub returns-then-packed : goal.returns-then-packed
returns-then-packed g c = rw c.if-packed.true (prints_then (mark (codes "<") Nothing) (brace c.args.count) (c.put_token.ensures kind.Punctuation) c.put_brace.ensures)

pub returns-else-packed : goal.returns-else-packed
returns-else-packed g c = rw c.if-packed.false c.put_brace-else-packed.ensures
