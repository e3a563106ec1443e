use Rattle.std.proofs.Common.{ℕ, List, sym, ap, append-nil}
use Rattle.ir_lexer.specs.Pieces.{TextPiece, Line}
use Rattle.ir_printer.proofs.OnPhrases.Printing.{prints_same}
use Rattle.ir_printer.specs.Listed.{text_line, target}
use Rattle.ir_printer.proofs.entries.put_target_line.Goals as goal

pub returns-in-Some : goal.returns-in-Some
returns-in-Some g c = λ s.
    let line : List TextPiece = text_line (target c.args.what.now) c.in-Some.text.now Line in
    rw c.in-Some.is
    (prints_same (sym (append-nil line)) (prints_same (ap (λ (bytes : List ℕ). text_line (target c.args.what.now) bytes Line) c.bytes.ensures) c.put_target.ensures))
