use Rattle.std.proofs.Common.{◌≡◌, ℕ, false, length, slice_index_or}
use Rattle.record_write.proofs.order.order.none_gone.Given as goal

-- as many constants as were counted, and none was gone through
abbrev pub invariant-loop-constant : goal.invariant-loop-constant
invariant-loop-constant l = record {
  len : length l.gone.items ≡ l._constant;
  none : (number : ℕ) → slice_index_or l.gone.items number false ≡ false;
}
