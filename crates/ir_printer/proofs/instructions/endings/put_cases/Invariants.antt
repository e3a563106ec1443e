use Rattle.std.proofs.Common.{map, drop}
use Rattle.ir_printer.specs.Gathered.Told.{GatherState, state}
use Rattle.ir_lexer.specs.Pieces.{Space}
use Rattle.canonical.specs.Instructions.{case_phrase}
use Rattle.canonical.specs.Phrase.{each}
use Rattle.ir_printer.specs.Phrases.Printing.{Prints}
use Rattle.ir_printer.specs.Instructions.Lines.{case_of}
use Rattle.ir_printer.proofs.instructions.endings.put_cases.Given as goal

-- who puts the rest from here on has put them all
abbrev pub invariant-parts : goal.invariant-parts
invariant-parts g l =
    let at_first = state l.fn.out (g.S.Sink.taken l.fn.sink) (g.S.Sink.faults l.fn.sink) in
    let here = state l.out (g.S.Sink.taken l.sink) (g.S.Sink.faults l.sink) in
    (now : GatherState) → Prints here now (each Space (map case_phrase (map (case_of l.arena l.function) (drop l.place l.cases))) Space) → Prints at_first now (each Space (map case_phrase (map (case_of l.arena l.function) l.cases)) Space)
