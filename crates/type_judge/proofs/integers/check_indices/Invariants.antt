use Rattle.std.proofs.Common.{drop}
use Rattle.name_rules.specs.FunctionDemands.{index_demands}
use Rattle.type_judge.proofs.Parts.{Leads}
use Rattle.type_judge.proofs.integers.check_indices.Given as goal

abbrev pub invariant-indices : goal.invariant-indices
invariant-indices l = Leads (index_demands (drop l.index-index l.indices)) (index_demands l.indices)
