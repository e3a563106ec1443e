use Rattle.name_rules.proofs.OnReading.WellFormed.{reads_well}
use Rattle.name_rules.proofs.reading.laws.what_bytes_read_to_is_well_formed.Goals as goal

pub returns : goal.returns
returns c = reads_well
