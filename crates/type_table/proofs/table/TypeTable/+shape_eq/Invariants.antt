use Rattle.std.proofs.Common.{◌≡◌, ◌<◌, ℕ, get_or}
use Rattle.type_table.specs.Outline.{type_nesting}
use Rattle.type_table.specs.Types.{shape}
use Rattle.type_table.proofs.table.TypeTable.+shape_eq.Given as goal

abbrev pub decreases-shape_eq : goal.decreases-shape_eq
decreases-shape_eq l = type_nesting l.self.now l.ty

abbrev pub invariant-loop-i : goal.invariant-loop-i
invariant-loop-i l = (k : ℕ) → k < l.i → shape l.self (get_or l.parts k 0) ≡ shape l.other (get_or l.other_parts k 0)
