use Rattle.std.proofs.Common.{◌≡◌, ◌<◌, ℕ, length, get_or, Some, None}
use Rattle.type_table.specs.Measures.{opaque_measure}
use Rattle.type_judge.proofs.order.measures.unmeasured.Given as goal

abbrev pub invariant-bodies : goal.invariant-bodies
invariant-bodies l = record {
  count : length l.measures.items ≡ l._body-index;
  none : (number : ℕ) → number < l._body-index → get_or l.measures.items number (Some opaque_measure) ≡ None;
}
