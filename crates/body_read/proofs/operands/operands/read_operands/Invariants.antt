use Rattle.std.proofs.Common.{◌-◌}
use Rattle.record_table.specs.Lines.{typed_value}
use Rattle.body_read.specs.Operands.Found.{HasOperand, operand_in}
use Rattle.body_read.proofs.OnOperands.Gathered.{Gathers}
use Rattle.body_read.proofs.operands.operands.read_operands.Given as goal

abbrev pub invariant-operands : goal.invariant-operands
invariant-operands l = Gathers HasOperand operand_in (λ k. (typed_value k).read) l.initial.m l.m l.count l.place l.operands.items

abbrev pub decreases-operands : goal.decreases-operands
decreases-operands l = l.count - l.place
