use Rattle.std.proofs.Common.{◌≢◌, ℕ, ◌<◌, Some, slice_get}
use Rattle.ir_tables.specs.Table.{words, entries}
use Rattle.ir_tables.proofs.table.Table.word_of.Given as goal

-- no row before this place has the word
abbrev pub invariant-loop-place : goal.invariant-loop-place
invariant-loop-place g l = (k : ℕ) → k < l.place → slice_get (words (entries l.row-items)) k ≢ Some l.word
