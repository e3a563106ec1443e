use Rattle.std.proofs.Common.{subst}
use Rattle.run_initial.specs.Constants.Places.{IsPlace}
use Rattle.run_initial.proofs.constants.distance.place_in.Goals as goal

pub returns-in-Whole-clause-place : goal.returns-in-Whole-clause-place
returns-in-Whole-clause-place c = subst (IsPlace c.args.types.now) c.in-Whole.is c.requires.place

pub element-requires : goal.element-requires
element-requires c = let placed = subst (IsPlace c.args.types.now) c.in-Inside.is c.requires.place in placed.0
