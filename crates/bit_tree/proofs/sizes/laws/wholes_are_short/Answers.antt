use Rattle.bit_tree.proofs.OnSizes.Wholes.{wholes_short}
use Rattle.bit_tree.proofs.sizes.laws.wholes_are_short.Goals as goal

pub returns : goal.returns
returns c = wholes_short
