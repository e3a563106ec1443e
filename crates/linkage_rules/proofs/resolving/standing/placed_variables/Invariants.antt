use Rattle.std.proofs.Common.{take}
use Rattle.linkage_rules.specs.Ids.{modules}
use Rattle.linkage_rules.specs.Resolving.Places.{rows_among}
use Rattle.linkage_rules.proofs.OnResolving.Placing.{ArePut}
use Rattle.linkage_rules.proofs.resolving.standing.placed_variables.Given as goal

abbrev pub invariant-loop-symbol : goal.invariant-loop-symbol
invariant-loop-symbol l = ArePut (rows_among (modules l.parts) (take l.symbol-index l.symbols)) l.variables l.next
