use Rattle.type_read.proofs.OnArena.TypesTold.{integer_told, integer_not}
use Rattle.type_read.proofs.arena.type_tests.is_byte.Goals as goal

pub returns-in-Int : goal.returns-in-Int
returns-in-Int c = integer_told c.args.types.now c.type_count-good.ensures.good c.args.ty c.get.result.now c.get.ensures c.in-Int.width c.in-Int.is

pub returns-in_default : goal.returns-in_default
returns-in_default c = integer_not c.args.types.now c.type_count-good.ensures.good c.args.ty c.get.result.now c.get.ensures (λ w is. c.in_default.not-Int w is)
