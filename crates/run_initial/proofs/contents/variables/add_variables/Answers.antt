use Rattle.std.proofs.Common.{sym, subst}
use Rattle.ir_memory.specs.Given.{IsAlignment}
use Rattle.run_names.specs.declared.spot.Spot.{Spot}
use Rattle.run_initial.proofs.contents.variables.add_variables.Goals as goal

pub add_variable-requires-clause-align : goal.add_variable-requires-clause-align
add_variable-requires-clause-align c = subst (λ (s : Spot). IsAlignment s.align) (sym c.spot-item.is) (c.requires.aligned c.spots.spot-index c.spot-item.result c.spots-test.true)
