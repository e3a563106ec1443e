use Rattle.arena_table.proofs.Bodies.{sum_known}
use Rattle.arena_table.proofs.arena.set.define_sum.Goals as goal

pub define-requires : goal.define-requires
define-requires c = sum_known _ _ c.in_ok-parts.parts c.in_ok-body.body c.in_ok-parts.ensures c.in_ok-body.ensures.0 c.in_ok-body.ensures.1
