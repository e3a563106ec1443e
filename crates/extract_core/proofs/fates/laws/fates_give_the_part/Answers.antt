use Rattle.extract_core.proofs.OnFates.ByFates.{part_is_extracted}
use Rattle.extract_core.proofs.fates.laws.fates_give_the_part.Goals as goal

pub returns : goal.returns
returns c = part_is_extracted
