use Rattle.std.proofs.Common.{◌≢◌, ℕ, ◌<◌, Some, slice_get}
use Rattle.ir_tables.specs.Table.{codes_of, entries}
use Rattle.ir_tables.proofs.table.Table.code_of.Given as goal

-- no row before this place has the code
abbrev pub invariant-loop-place : goal.invariant-loop-place
invariant-loop-place g l = (k : ℕ) → k < l.place → slice_get (codes_of (entries l.row-items)) k ≢ Some l.code
