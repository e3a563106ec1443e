use Rattle.std.proofs.Common.{subst, sym}
use Rattle.ir_tables.specs.declared.opcode.Opcode.TheVariants as op
use Rattle.body_read.specs.Operands.Found.{Finds}
use Rattle.body_read.specs.Lines.Kept.{GivesInst, operation_in}
use Rattle.body_read.specs.Lines.Operations.{operation}
use Rattle.body_read.proofs.OnLines.Found.{freeze_found}
use Rattle.body_read.proofs.lines.operations.read_freeze.Goals as goal

pub returns : goal.returns
returns c =
    let m0 = c.args.m.now in
    let m1 = c.read_operand.new.m in
    subst (Finds (GivesInst c.args.defined) operation_in (λ k. (operation k op.Freeze).read) m0 m1) (sym c.freeze_of.ensures) (freeze_found c.args.defined m0 m1 c.in_ok-value.value c.in_ok-value.ensures)
