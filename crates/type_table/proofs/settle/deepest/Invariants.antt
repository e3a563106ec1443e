use Rattle.std.proofs.Common.{◌≡◌, take}
use Rattle.type_table.specs.Measures.{deepest_nesting}
use Rattle.type_table.proofs.settle.deepest.Given as goal

abbrev pub invariant-loop-measure : goal.invariant-loop-measure
invariant-loop-measure l = l.deepest ≡ deepest_nesting (take l.measure-index l.measures)
