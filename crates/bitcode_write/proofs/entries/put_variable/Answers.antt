use Rattle.std.proofs.Common.{refl}
use Rattle.bitcode_write.proofs.Chain.{from_empty}
use Rattle.bitcode_write.proofs.Lined.{put_as}
use Rattle.bitcode_write.proofs.entries.put_variable.Goals as goal

pub returns-clause-put : goal.returns-clause-put
returns-clause-put c =
    put_as _ _ _ _ 5 _ _ c.put.ensures.put refl
    (from_empty _ _ _ c.requires.empty c.in_ok-put_variable_parts.ensures)
