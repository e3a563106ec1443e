use Rattle.std.proofs.Common.{◌+◌, ◌*◌, max, drop}
use Rattle.ir_printer.specs.Gathered.Told.{GatherState, state}
use Rattle.canonical.specs.Phrase.{listed}
use Rattle.ir_printer.specs.Phrases.Printing.{separator_of, Prints}
use Rattle.ir_printer.proofs.OnPhrases.Parts.{top, phrases}
use Rattle.ir_printer.proofs.phrases.constants.+constants.Given as goal

abbrev pub decreases-put_constant : goal.decreases-put_constant
decreases-put_constant g l = 4 * l.constant + 2

abbrev pub decreases-put_typed : goal.decreases-put_typed
decreases-put_typed g l = 4 * l.part.value + 3

abbrev pub decreases-put_constants : goal.decreases-put_constants
decreases-put_constants g l = 4 * top l.parts.now

abbrev pub decreases-put_element_address : goal.decreases-put_element_address
decreases-put_element_address g l = 4 * top l.address.now.operands + 1

abbrev pub decreases-put_cast : goal.decreases-put_cast
decreases-put_cast g l = 4 * l.operand.value + 5

abbrev pub decreases-put_binary : goal.decreases-put_binary
decreases-put_binary g l = 4 * max l.pair.left.value l.pair.right.value + 5

-- who puts the rest of the constants from here on has put them all
abbrev pub invariant-put_constants-parts : goal.invariant-put_constants-parts
invariant-put_constants-parts g l =
    let at_first = state l.fn.out (g.S.Sink.taken l.fn.sink) (g.S.Sink.faults l.fn.sink) in
    let here = state l.out (g.S.Sink.taken l.sink) (g.S.Sink.faults l.sink) in
    (now : GatherState) → Prints here now (listed (phrases l.arena (drop l.place l.parts)) (separator_of l.behind)) → Prints at_first now (listed (phrases l.arena l.parts) (separator_of l.behind))
