use Rattle.std.proofs.Common.{refl}
use Rattle.ir_terminals.specs.WordRows.{slot}
use Rattle.ir_terminals.proofs.words.slot_of.Goals as goal

pub returns-clause-slot : goal.returns-clause-slot
unfolding slot
returns-clause-slot c = rw (c.from-first.ensures, c.from-third.ensures, c.from-half.ensures, c.from-last.ensures, c.from.ensures) refl
