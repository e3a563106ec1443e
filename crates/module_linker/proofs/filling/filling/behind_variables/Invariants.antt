use Rattle.std.proofs.Common.{◌≤◌, length}
use Rattle.module_linker.specs.Filling.Standing.{ArePlainFrom}
use Rattle.module_linker.proofs.filling.filling.behind_variables.Given as goal

abbrev pub invariant-ids : goal.invariant-ids
invariant-ids l = record {
  upto : l.first ≤ length l.new;
  plain : ArePlainFrom l.first l.new;
}

abbrev pub decreases-ids : goal.decreases-ids
decreases-ids l = l.first
