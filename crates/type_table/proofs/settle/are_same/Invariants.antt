use Rattle.std.proofs.Common.{◌≡◌, ℕ, ◌<◌, get_or}
use Rattle.type_table.specs.Measures.{opaque_measure}
use Rattle.type_table.proofs.settle.are_same.Given as goal

abbrev pub invariant-loop-i : goal.invariant-loop-i
invariant-loop-i l = (k : ℕ) → k < l.i → get_or l.one k opaque_measure ≡ get_or l.other k opaque_measure
