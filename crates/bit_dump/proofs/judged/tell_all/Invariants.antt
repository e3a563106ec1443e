use Rattle.std.proofs.Common.{◌≡◌, ℕ, Bool, List, false, length}
use Rattle.bit_dump.specs.Telling.{IsUntold}
use Rattle.bit_dump.proofs.Telling.{IsTold}
use Rattle.bit_dump.proofs.judged.tell_all.Given as goal

abbrev pub invariant-telling : goal.invariant-telling
invariant-telling g l =
    let before = g.S.Sink.taken l.initial.sink in
    record {
      told : (bytes : List ℕ) (whole : Bool)
          → IsUntold bytes whole l.initial.walker.left l.initial.outline
          → IsTold bytes whole before (g.S.Sink.taken l.sink) l.walker.left l.outline;
      faults : g.S.Sink.faults l.sink ≡ g.S.Sink.faults l.initial.sink;
      unspent : l.walker.spent ≡ false;
    }

abbrev pub decreases-telling : goal.decreases-telling
decreases-telling g l = length l.walker.left
