use Rattle.std.proofs.Common.{ℕ, ap}
use Rattle.std.specs.Prelude.{codes, ◌++◌}
use Rattle.ir_lexer.specs.Pieces.{Space}
use Rattle.ir_lexer.specs.declared.token.TokenKind.TheVariants as kind
use Rattle.canonical.specs.Names.{natural}
use Rattle.canonical.specs.Phrase.{word, comma}
use Rattle.ir_printer.specs.Phrases.Printing.{separator_of}
use Rattle.ir_printer.proofs.OnPhrases.Printing.{prints_same, prints_then}
use Rattle.ir_printer.proofs.instructions.alignment.put_alignment.Goals as goal

pub returns-in-Some : goal.returns-in-Some
returns-in-Some g c =
    let number = natural c.in-Some.bytes (separator_of c.args.behind) in
    rw c.in-Some.is
    (prints_then (comma Space) (word (codes "align") Space ++ number) (c.put_token.ensures kind.Punctuation)
    (prints_then (word (codes "align") Space) number (c.put_token-in-Some.ensures kind.Word) (prints_same (ap (λ (n : ℕ). natural n (separator_of c.args.behind)) c.from.ensures) c.put_natural.ensures)))
