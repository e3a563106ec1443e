use Rattle.bit_tree.proofs.OnSizes.Wholes.{records_few}
use Rattle.bit_tree.proofs.sizes.laws.records_take_bits.Goals as goal

pub returns : goal.returns
returns c = records_few
