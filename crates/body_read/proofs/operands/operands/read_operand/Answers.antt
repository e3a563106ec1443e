use Rattle.type_read.proofs.OnArena.Lasting.{ok_by}
use Rattle.body_read.proofs.OnOperands.Typed.{typed_found}
use Rattle.body_read.proofs.operands.operands.read_operand.Goals as goal

pub returns : goal.returns
returns c =
    ok_by c.read_operand_of.result _ _ c.read_operand_of.ensures
    (λ x h. typed_found c.args.m.now c.read_type-ty.new.m c.read_operand_of.new.m c.read_type-ty.result x c.read_type-ty.ensures.takes c.read_type-ty.ensures.reads h)
