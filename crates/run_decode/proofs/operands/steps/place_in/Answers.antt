use Rattle.std.proofs.Common.{subst}
use Rattle.run_decode.specs.Operands.Steps.{IsPlace}
use Rattle.run_decode.proofs.operands.steps.place_in.Goals as goal

pub returns-in-Whole-clause-place : goal.returns-in-Whole-clause-place
returns-in-Whole-clause-place c = subst (IsPlace c.args.types.now) c.in-Whole.is c.requires

pub element-requires : goal.element-requires
element-requires c = let placed = subst (IsPlace c.args.types.now) c.in-Inside.is c.requires in placed.0
