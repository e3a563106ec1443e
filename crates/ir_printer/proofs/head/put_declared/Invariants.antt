use Rattle.std.proofs.Common.{drop}
use Rattle.ir_printer.specs.Gathered.Told.{GatherState, state}
use Rattle.ir_printer.specs.Phrases.Printing.{Prints}
use Rattle.ir_printer.specs.Listed.{declared_list}
use Rattle.ir_printer.proofs.head.put_declared.Given as goal

-- who puts the rest from here on has put them all
abbrev pub invariant-parts : goal.invariant-parts
invariant-parts g l =
    let at_first = state l.fn.out (g.S.Sink.taken l.fn.sink) (g.S.Sink.faults l.fn.sink) in
    let here = state l.out (g.S.Sink.taken l.sink) (g.S.Sink.faults l.sink) in
    (now : GatherState) → Prints here now (declared_list l.types (drop l.place l.parameters) l.variadic) → Prints at_first now (declared_list l.types l.parameters l.variadic)
