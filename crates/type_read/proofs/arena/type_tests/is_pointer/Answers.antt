use Rattle.type_read.proofs.OnArena.TypesTold.{pointer_told, pointer_not}
use Rattle.type_read.proofs.arena.type_tests.is_pointer.Goals as goal

pub returns-in-Ptr : goal.returns-in-Ptr
returns-in-Ptr c = rw c.in-Some.is (pointer_told c.args.types.now c.type_count-good.ensures.good c.in-Some.ty c.get.result.now c.get.ensures c.in-Ptr.is)

pub returns-in_default : goal.returns-in_default
returns-in_default c = rw c.in-Some.is (pointer_not c.args.types.now c.type_count-good.ensures.good c.in-Some.ty c.get.result.now c.get.ensures (λ is. c.in_default.not-Ptr is))
