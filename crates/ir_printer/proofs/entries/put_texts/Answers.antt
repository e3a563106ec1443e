use Rattle.std.proofs.Common.{ℕ, List, ◌++◌, codes, Option, ap}
use Rattle.ir_lexer.specs.Pieces.{Line}
use Rattle.canonical.specs.Canonical.{text_phrases}
use Rattle.canonical.specs.Phrase.{each, word}
use Rattle.ir_printer.proofs.OnPhrases.Printing.{prints_same}
use Rattle.ir_printer.specs.Listed.{target}
use Rattle.ir_printer.proofs.Followed.{lines_then}
use Rattle.ir_printer.proofs.entries.put_texts.Goals as goal

pub returns : goal.returns
returns g c = λ s.
    let a = c.args.arena.now in
    let source = text_phrases (word (codes "source_filename")) a.source in
    let layout = text_phrases (target (codes "datalayout")) a.layout in
    let triple = text_phrases (target (codes "triple")) a.triple in
    lines_then source (layout ++ triple) s (prints_same (ap (λ (o : Option (List ℕ)). each Line (text_phrases (word (codes "source_filename")) o) s) c.source.ensures) (c.put_source_line.ensures s))
    (lines_then layout triple s (prints_same (ap (λ (o : Option (List ℕ)). each Line (text_phrases (target (codes "datalayout")) o) s) c.data_layout.ensures) (c.put_target_line.ensures s))
    (prints_same (ap (λ (o : Option (List ℕ)). each Line (text_phrases (target (codes "triple")) o) s) c.triple.ensures) (c.put_target_line-2.ensures s)))
