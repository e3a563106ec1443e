use Rattle.bitcode_read.proofs.OnAhead.VoidTypes.{void_told, void_not}
use Rattle.bitcode_read.proofs.ahead.voids.is_void.Goals as goal

pub returns-in-Void : goal.returns-in-Void
returns-in-Void c = void_told c.args.types.now c.type_count-good.ensures.good c.args.ty c.get.result.now c.get.ensures c.in-Void.is

pub returns-in_default : goal.returns-in_default
returns-in_default c = void_not c.args.types.now c.type_count-good.ensures.good c.args.ty c.get.result.now c.get.ensures (λ is. c.in_default.not-Void is)
