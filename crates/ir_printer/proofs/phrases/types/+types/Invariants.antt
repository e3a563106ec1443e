use Rattle.std.proofs.Common.{◌+◌, ◌*◌, drop}
use Rattle.ir_printer.specs.Gathered.Told.{GatherState, state}
use Rattle.canonical.specs.Phrase.{listed}
use Rattle.ir_printer.specs.Phrases.Printing.{separator_of, Prints}
use Rattle.ir_printer.proofs.OnPhrases.TypeParts.{top, phrases}
use Rattle.ir_printer.proofs.phrases.types.+types.Given as goal

abbrev pub decreases-put_type : goal.decreases-put_type
decreases-put_type g l = 2 * l.ty + 1

abbrev pub decreases-put_types : goal.decreases-put_types
decreases-put_types g l = 2 * top l.parts.now

-- who puts the rest of the types from here on has put them all
abbrev pub invariant-put_types-parts : goal.invariant-put_types-parts
invariant-put_types-parts g l =
    let at_first = state l.fn.out (g.S.Sink.taken l.fn.sink) (g.S.Sink.faults l.fn.sink) in
    let here = state l.out (g.S.Sink.taken l.sink) (g.S.Sink.faults l.sink) in
    (now : GatherState) → Prints here now (listed (phrases l.types (drop l.place l.parts)) (separator_of l.behind)) → Prints at_first now (listed (phrases l.types l.parts) (separator_of l.behind))
