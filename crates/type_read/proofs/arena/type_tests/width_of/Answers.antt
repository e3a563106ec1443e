use Rattle.type_read.proofs.OnArena.TypesTold.{width_told, width_bounds, width_not}
use Rattle.type_read.proofs.arena.type_tests.width_of.Goals as goal

pub returns-in-Int-clause-width : goal.returns-in-Int-clause-width
returns-in-Int-clause-width c = rw c.in_ok-ty.was (width_told c.args.types.now c.type_count-good.ensures.good _ c.get.result.now c.get.ensures c.in-Int.width c.in-Int.is)

pub returns-in-Int-clause-bounds : goal.returns-in-Int-clause-bounds
returns-in-Int-clause-bounds c = width_bounds c.args.types.now c.type_count-good.ensures.good _ c.get.result.now c.get.ensures c.in-Int.width c.in-Int.is

pub returns-in_default : goal.returns-in_default
returns-in_default c = record { width = rw c.in_ok-ty.was (width_not c.args.types.now c.type_count-good.ensures.good _ c.get.result.now c.get.ensures (λ w is. c.in_default.not-Int w is)); bounds = tt }
