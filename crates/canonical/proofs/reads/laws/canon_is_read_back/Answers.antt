use Rattle.canonical.proofs.OnReads.Writes.{canon_is_read_back}
use Rattle.canonical.proofs.reads.laws.canon_is_read_back.Goals as goal

pub returns : goal.returns
returns c = canon_is_read_back
