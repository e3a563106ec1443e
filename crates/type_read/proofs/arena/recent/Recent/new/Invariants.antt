use Rattle.std.proofs.Common.{◌≡◌, vec_len}
use Rattle.type_read.proofs.arena.recent.Recent.new.Given as goal

abbrev pub invariant-slots : goal.invariant-slots
invariant-slots l = vec_len l.slots ≡ l._slot
