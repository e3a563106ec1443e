use Rattle.ir_resolve.proofs.OnBuildsWell.Buildable.{can_build}
use Rattle.ir_resolve.proofs.builds_well.laws.items_without_a_break_are_buildable.Goals as goal

pub returns : goal.returns
returns c = can_build
