use Rattle.canonical.proofs.OnReads.Writes.{canon_has_its_items}
use Rattle.canonical.proofs.reads.laws.canon_has_items.Goals as goal

pub returns : goal.returns
returns c = canon_has_its_items
