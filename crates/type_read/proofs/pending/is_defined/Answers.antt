use Rattle.std.proofs.Common.{ap, subst}
use Rattle.type_table.specs.Limits.{IsWithin}
use Rattle.type_table.specs.Types.{with_body}
use Rattle.module_arena.specs.Lists.{Lists}
use Rattle.type_read.proofs.Fits.{refused_unfit, within_fits}
use Rattle.type_read.proofs.pending.is_defined.Goals as goal

pub returns-in-Ok : goal.returns-in-Ok
returns-in-Ok c = (
  c.in-Ok.ensures.ok,
  within_fits (with_body c.args.arena.now.table c.args.id c.args.body) (subst IsWithin (ap (λ (a : Lists). a.table) c.in-Ok.ensures.ok) c.are_within.ensures.within),
)

pub returns-in_ok-lacks_memory-in-Err : goal.returns-in_ok-lacks_memory-in-Err
returns-in_ok-lacks_memory-in-Err c = refused_unfit (with_body c.args.arena.now.table c.args.id c.args.body) c.in-Err.fault c.in-Err.ensures.fault c.in_ok-lacks_memory-in-Err.ensures
