use Rattle.ir_memory.proofs.OnPointers.Places.{none_there}
use Rattle.ir_memory.proofs.pointers.slot.PieceSlot.none.Goals as goal

pub returns : goal.returns
returns c = none_there 8
