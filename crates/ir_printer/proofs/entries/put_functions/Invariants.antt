use Rattle.std.proofs.Common.{drop}
use Rattle.ir_printer.specs.Gathered.Told.{GatherState, state}
use Rattle.ir_lexer.specs.Pieces.{Separator}
use Rattle.ir_printer.specs.Phrases.Printing.{Prints}
use Rattle.ir_printer.specs.Entries.{function_lines}
use Rattle.ir_printer.proofs.entries.put_functions.Given as goal

-- who puts the rest from here on has put them all
abbrev pub invariant-parts : goal.invariant-parts
invariant-parts g l =
    let at_first = state l.fn.out (g.S.Sink.taken l.fn.sink) (g.S.Sink.faults l.fn.sink) in
    let here = state l.out (g.S.Sink.taken l.sink) (g.S.Sink.faults l.sink) in
    (s : Separator) (now : GatherState) → Prints here now (function_lines l.arena (drop l.place l.arena.functions) s) → Prints at_first now (function_lines l.arena l.arena.functions s)
