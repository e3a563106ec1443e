use Rattle.std.proofs.Common.{◌≡◌, ℕ, List, Option, length}
use Rattle.bit_dump.specs.Outline.{Outline, after_operands}
use Rattle.bit_dump.specs.Telling.{Tells}
use Rattle.bit_dump.proofs.pieces.tell_operands.Given as goal

abbrev pub invariant-operands : goal.invariant-operands
invariant-operands g l = record {
  told : (before : Option (List ℕ)) (all : Outline) → Tells before (g.S.Sink.taken l.initial.sink) all l.initial.outline → (so_far : Outline) × Tells before (g.S.Sink.taken l.sink) so_far l.outline × (after_operands so_far l.walker.operands ≡ after_operands all l.initial.walker.operands);
  faults : g.S.Sink.faults l.sink ≡ g.S.Sink.faults l.initial.sink;
  walker : l.walker ≡ record l.initial.walker { operands = l.walker.operands };
}

abbrev pub decreases-operands : goal.decreases-operands
decreases-operands g l = length l.walker.operands
