use Rattle.std.proofs.Common.{◌≡◌, ◌++◌, Option, OnOk, subst}
use Rattle.std.specs.Prelude.{option_to_list}
use Rattle.module_arena.specs.declared.instruction.Operand.{Operand}
use Rattle.body_read.proofs.operands.operands.add_operand.Goals as goal

pub returns : goal.returns
returns c =
    subst (λ (o : Option Operand). OnOk c.push_operand.result (c.push_operand.new.operands.items ≡ c.args.operands.now.items ++ option_to_list o)) c.operand_of.ensures c.push_operand.ensures
