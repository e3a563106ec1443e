use Rattle.body_read.proofs.OnCalls.Voids.{void_told, void_not}
use Rattle.body_read.proofs.calls.head.is_void.Goals as goal

pub returns-in-Void : goal.returns-in-Void
returns-in-Void c = rw c.in-Some.is (void_told c.args.types.now c.type_count-good.ensures.good c.in-Some.ty c.get.result.now c.get.ensures c.in-Void.is)

pub returns-in_default : goal.returns-in_default
returns-in_default c = rw c.in-Some.is (void_not c.args.types.now c.type_count-good.ensures.good c.in-Some.ty c.get.result.now c.get.ensures (λ is. c.in_default.not-Void is))
