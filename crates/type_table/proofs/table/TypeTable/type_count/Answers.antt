use Rattle.std.proofs.Common.{subst}
use Rattle.type_table.specs.Limits.{IsWithin}
use Rattle.type_table.proofs.Judged.{within_kept}
use Rattle.type_table.proofs.table.TypeTable.type_count.Goals as goal

pub returns-clause-within : goal.returns-clause-within
returns-clause-within c = subst IsWithin c.self.view_is (within_kept _ _ _ c.self.invariant.kept)
