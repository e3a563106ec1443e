use Rattle.canonical.proofs.OnReads.Writes.{canon_is_unbroken}
use Rattle.canonical.proofs.reads.laws.canon_items_are_unbroken.Goals as goal

pub returns : goal.returns
returns c = canon_is_unbroken
