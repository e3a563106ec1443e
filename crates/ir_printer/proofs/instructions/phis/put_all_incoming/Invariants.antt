use Rattle.std.proofs.Common.{drop}
use Rattle.ir_printer.specs.Gathered.Told.{GatherState, state}
use Rattle.type_table.specs.Types.{tree}
use Rattle.canonical.specs.Phrase.{listed}
use Rattle.ir_printer.specs.Phrases.Printing.{separator_of, Prints}
use Rattle.ir_printer.proofs.OnInstructions.Chained.{incoming_phrases}
use Rattle.ir_printer.proofs.instructions.phis.put_all_incoming.Given as goal

-- who puts the rest from here on has put them all
abbrev pub invariant-parts : goal.invariant-parts
invariant-parts g l =
    let at_first = state l.fn.out (g.S.Sink.taken l.fn.sink) (g.S.Sink.faults l.fn.sink) in
    let here = state l.out (g.S.Sink.taken l.sink) (g.S.Sink.faults l.sink) in
    let all = incoming_phrases l.arena l.function (tree l.arena.table l.ty) in
    (now : GatherState) → Prints here now (listed (all (drop l.place l.parts)) (separator_of l.behind)) → Prints at_first now (listed (all l.parts) (separator_of l.behind))
