use Rattle.canonical.proofs.OnReads.Writes.{canon_is_of_its_items}
use Rattle.canonical.proofs.reads.laws.canon_items_are_its_module.Goals as goal

pub returns : goal.returns
returns c = canon_is_of_its_items
