use Rattle.std.proofs.Common.{drop}
use Rattle.ir_printer.specs.Gathered.Told.{GatherState, state}
use Rattle.ir_lexer.specs.Pieces.{Separator, Line}
use Rattle.canonical.specs.Phrase.{each}
use Rattle.ir_printer.proofs.Lines.{block_lines}
use Rattle.ir_printer.specs.Phrases.Printing.{Prints}
use Rattle.ir_printer.proofs.blocks.put_blocks.Given as goal

-- who puts the rest from here on has put them all
abbrev pub invariant-parts : goal.invariant-parts
invariant-parts g l =
    let at_first = state l.fn.out (g.S.Sink.taken l.fn.sink) (g.S.Sink.faults l.fn.sink) in
    let here = state l.out (g.S.Sink.taken l.sink) (g.S.Sink.faults l.sink) in
    (s : Separator) (now : GatherState) → Prints here now (each Line (block_lines l.arena l.function (drop l.place l.blocks)) s) → Prints at_first now (each Line (block_lines l.arena l.function l.blocks) s)
