use Rattle.std.proofs.Common.{map, drop}
use Rattle.ir_printer.specs.Gathered.Told.{GatherState, state}
use Rattle.canonical.specs.Phrase.{listed}
use Rattle.canonical.specs.Names.{natural}
use Rattle.ir_printer.specs.Phrases.Printing.{separator_of, Prints}
use Rattle.ir_printer.proofs.instructions.indices.put_indices.Given as goal

-- who puts the rest from here on has put them all
abbrev pub invariant-parts : goal.invariant-parts
invariant-parts g l =
    let at_first = state l.fn.out (g.S.Sink.taken l.fn.sink) (g.S.Sink.faults l.fn.sink) in
    let here = state l.out (g.S.Sink.taken l.sink) (g.S.Sink.faults l.sink) in
    (now : GatherState) → Prints here now (listed (map natural (drop l.place l.indices)) (separator_of l.behind)) → Prints at_first now (listed (map natural l.indices) (separator_of l.behind))
