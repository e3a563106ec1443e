use Rattle.std.proofs.Common.{subst, sym}
use Rattle.ir_tables.specs.declared.opcode.Opcode.TheVariants as op
use Rattle.record_table.specs.Lines.{ending}
use Rattle.body_read.specs.Operands.Found.{Finds}
use Rattle.body_read.specs.Endings.Ends.{HasEnding, ending_in}
use Rattle.body_read.proofs.OnEndings.Parts.{return_found}
use Rattle.body_read.proofs.endings.ending.read_return.Goals as goal

pub returns : goal.returns
returns c =
    subst (Finds HasEnding ending_in (λ k. (ending k op.Ret).read) c.args.m.now c.read_optional_operand.new.m) (sym c.return_of.ensures)
    (return_found c.args.m.now c.read_optional_operand.new.m c.in_ok-value.value c.in_ok-value.ensures)
