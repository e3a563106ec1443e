use Rattle.std.proofs.Common.{◌∙◌}
use Rattle.ir_memory.proofs.pointers.slots.make_room.Goals as goal

pub returns-in-Err-clause-same : goal.returns-in-Err-clause-same
returns-in-Err-clause-same c = λ q. c.sweep.ensures q ∙ c.add_slots.ensures.same q
