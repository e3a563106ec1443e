use Rattle.std.proofs.Common.{drop}
use Rattle.ir_printer.specs.Gathered.Told.{GatherState, state}
use Rattle.ir_printer.specs.Phrases.Printing.{Prints}
use Rattle.ir_printer.specs.Instructions.Parts.{dotted_types}
use Rattle.ir_printer.proofs.instructions.calls.put_dotted.Given as goal

-- who puts the rest from here on has put them all
abbrev pub invariant-parts : goal.invariant-parts
invariant-parts g l =
    let at_first = state l.fn.out (g.S.Sink.taken l.fn.sink) (g.S.Sink.faults l.fn.sink) in
    let here = state l.out (g.S.Sink.taken l.sink) (g.S.Sink.faults l.sink) in
    (now : GatherState) → Prints here now (dotted_types l.types (drop l.part-index l.parts)) → Prints at_first now (dotted_types l.types l.parts)
