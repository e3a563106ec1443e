use Rattle.canonical.proofs.OnReads.Writes.{canon_is_their_own}
use Rattle.canonical.proofs.reads.laws.canon_is_of_one_module.Goals as goal

pub returns : goal.returns
returns c = canon_is_their_own
