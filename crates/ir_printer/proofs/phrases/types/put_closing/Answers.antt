use Rattle.std.specs.Prelude.{codes}
use Rattle.ir_lexer.specs.Pieces.{Nothing}
use Rattle.ir_lexer.specs.declared.token.TokenKind.TheVariants as kind
use Rattle.canonical.specs.Phrase.{mark}
use Rattle.ir_printer.specs.Phrases.Printing.{separator_of}
use Rattle.ir_printer.proofs.OnPhrases.Printing.{prints_then}
use Rattle.ir_printer.proofs.phrases.types.put_closing.Goals as goal

pub returns-then-packed : goal.returns-then-packed
returns-then-packed g c =
    rw c.if-packed.true
    (prints_then (mark (codes "}") Nothing) (mark (codes ">") (separator_of c.args.behind)) (c.put_token.ensures kind.Punctuation) (c.put_token-then-packed.ensures kind.Punctuation))

pub returns-else-packed : goal.returns-else-packed
returns-else-packed g c = rw c.if-packed.false (c.put_token-else-packed.ensures kind.Punctuation)
