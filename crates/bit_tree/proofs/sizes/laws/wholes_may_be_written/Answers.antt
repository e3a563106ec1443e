use Rattle.bit_tree.proofs.OnSizes.Wholes.{wholes_allowed}
use Rattle.bit_tree.proofs.sizes.laws.wholes_may_be_written.Goals as goal

pub returns : goal.returns
returns c = wholes_allowed
