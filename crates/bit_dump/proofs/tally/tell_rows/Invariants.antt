use Rattle.std.proofs.Common.{◌≡◌, string_bytes}
use Rattle.bit_dump.specs.Halves.{joined}
use Rattle.bit_dump.proofs.Spilling.{Rows}
use Rattle.bit_dump.proofs.tally.tell_rows.Given as goal

abbrev pub invariant-loop-id : goal.invariant-loop-id
invariant-loop-id g l = record {
  told : Rows (g.S.Sink.taken l.initial.sink) (g.S.Sink.taken l.sink) (string_bytes l.initial.text) (string_bytes l.text) (joined l.upper.entries l.lower.entries) (joined l.upper.entries l.id-iterator);
  faults : g.S.Sink.faults l.sink ≡ g.S.Sink.faults l.initial.sink;
}
