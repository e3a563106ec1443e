use Rattle.canonical.proofs.OnReads.Writes.{canon_has_its_tokens}
use Rattle.canonical.proofs.reads.laws.canon_has_tokens.Goals as goal

pub returns : goal.returns
returns c = canon_has_its_tokens
