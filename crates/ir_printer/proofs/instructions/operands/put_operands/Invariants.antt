use Rattle.std.proofs.Common.{drop}
use Rattle.ir_printer.specs.Gathered.Told.{GatherState, state}
use Rattle.canonical.specs.Phrase.{listed}
use Rattle.ir_printer.proofs.OnInstructions.Locals.{operands_phrases}
use Rattle.ir_printer.specs.Phrases.Printing.{separator_of, Prints}
use Rattle.ir_printer.proofs.instructions.operands.put_operands.Given as goal

-- who puts the rest from here on has put them all
abbrev pub invariant-parts : goal.invariant-parts
invariant-parts g l =
    let at_first = state l.fn.out (g.S.Sink.taken l.fn.sink) (g.S.Sink.faults l.fn.sink) in
    let here = state l.out (g.S.Sink.taken l.sink) (g.S.Sink.faults l.sink) in
    (now : GatherState) → Prints here now (listed (operands_phrases l.arena l.function (drop l.place l.parts)) (separator_of l.behind)) → Prints at_first now (listed (operands_phrases l.arena l.function l.parts) (separator_of l.behind))
