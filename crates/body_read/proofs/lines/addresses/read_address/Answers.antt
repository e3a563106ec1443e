use Rattle.std.proofs.Common.{subst}
use Rattle.type_table.specs.Tree.{Tree}
use Rattle.type_read.proofs.OnArena.Lasting.{ok_by}
use Rattle.body_read.specs.Operands.Found.{Finds, HasOperand, operand_at, operand_in}
use Rattle.body_read.proofs.lines.addresses.read_address.Goals as goal

pub returns : goal.returns
returns c =
    ok_by c.read_operand_of.result _ _ c.read_operand_of.ensures
    (λ x h. subst (λ (t : Tree). Finds HasOperand operand_in (λ k. operand_at k t) c.args.m.now c.read_operand_of.new.m x) c.pointer-pointer.ensures.is.tree_is h)
