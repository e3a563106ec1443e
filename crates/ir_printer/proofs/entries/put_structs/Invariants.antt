use Rattle.std.proofs.Common.{drop, map}
use Rattle.ir_printer.specs.Gathered.Told.{GatherState, state}
use Rattle.ir_lexer.specs.Pieces.{Separator, Line}
use Rattle.type_table.specs.Types.{structs}
use Rattle.canonical.specs.Canonical.{struct_phrase}
use Rattle.canonical.specs.Phrase.{each}
use Rattle.ir_printer.specs.Phrases.Printing.{Prints}
use Rattle.ir_printer.proofs.entries.put_structs.Given as goal

-- who puts the rest from here on has put them all
abbrev pub invariant-parts : goal.invariant-parts
invariant-parts g l =
    let at_first = state l.fn.out (g.S.Sink.taken l.fn.sink) (g.S.Sink.faults l.fn.sink) in
    let here = state l.out (g.S.Sink.taken l.sink) (g.S.Sink.faults l.sink) in
    (s : Separator) (now : GatherState) → Prints here now (each Line (map struct_phrase (drop l.place (structs l.types))) s) → Prints at_first now (each Line (map struct_phrase (structs l.types)) s)
