use Rattle.std.proofs.Common.{ℕ, List, codes, sym, ap, append-nil}
use Rattle.ir_lexer.specs.Pieces.{TextPiece, Line}
use Rattle.canonical.specs.Phrase.{word}
use Rattle.ir_printer.proofs.OnPhrases.Printing.{prints_same}
use Rattle.ir_printer.specs.Listed.{text_line}
use Rattle.ir_printer.proofs.entries.put_source_line.Goals as goal

pub returns-in-Some : goal.returns-in-Some
returns-in-Some g c = λ s.
    let line : List TextPiece = text_line (word (codes "source_filename")) c.in-Some.text.now Line in
    rw c.in-Some.is
    (prints_same (sym (append-nil line)) (prints_same (ap (λ (bytes : List ℕ). text_line (word (codes "source_filename")) bytes Line) c.bytes.ensures) c.put_source.ensures))
