use Rattle.std.specs.Prelude.{codes}
use Rattle.ir_lexer.specs.Pieces.{Space}
use Rattle.ir_lexer.specs.declared.token.TokenKind.TheVariants as kind
use Rattle.canonical.specs.Names.{text}
use Rattle.canonical.specs.Phrase.{Phrase, word, mark, ◌␣◌}
use Rattle.ir_printer.specs.Phrases.Printing.{separator_of}
use Rattle.ir_printer.proofs.OnInstructions.Chained.{spaced}
use Rattle.ir_printer.specs.Listed.{target}
use Rattle.ir_printer.proofs.texts.put_target.Goals as goal

pub returns : goal.returns
returns g c =
    let behind = separator_of c.args.behind in
    let written : Phrase = text c.args.text.now in
    spaced (target c.args.what.now) (mark (codes "=") ␣ written) behind
    (spaced (word (codes "target")) (word c.args.what.now) Space (c.put_token.ensures kind.Word) (c.put_token-2.ensures kind.Word))
    (spaced (mark (codes "=")) written behind (c.put_token-3.ensures kind.Punctuation) c.put_text.ensures)
