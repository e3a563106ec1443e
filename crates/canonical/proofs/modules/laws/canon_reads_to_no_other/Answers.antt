use Rattle.canonical.proofs.OnModules.ReadsOnly.{reads_only}
use Rattle.canonical.proofs.modules.laws.canon_reads_to_no_other.Goals as goal

pub returns : goal.returns
returns c = reads_only
