use Rattle.std.proofs.Common.{◌≤◌, length}
use Rattle.leaf_table.proofs.printf.write_pattern.Given as goal

abbrev pub invariant-pieces : goal.invariant-pieces
invariant-pieces l = l.at ≤ length l.pattern
