use Rattle.std.proofs.Common.{subst, sym}
use Rattle.ir_tables.specs.declared.opcode.Opcode.TheVariants as op
use Rattle.body_read.specs.Operands.Found.{Finds}
use Rattle.body_read.specs.Lines.Kept.{GivesInst, operation_in}
use Rattle.body_read.specs.Lines.Operations.{operation}
use Rattle.body_read.proofs.OnLines.Found.{extraction_found}
use Rattle.body_read.proofs.lines.operations.read_extraction.Goals as goal

pub returns : goal.returns
returns c =
    let m0 = c.args.m.now in
    let m1 = c.read_operand.new.m in
    let m2 = c.read_indices.new.m in
    subst (Finds (GivesInst c.args.defined) operation_in (λ k. (operation k op.ExtractValue).read) m0 m2) (sym c.extraction_of.ensures)
    (extraction_found c.args.defined m0 m1 m2 c.in_ok-aggregate.aggregate c.in_ok-indices.indices c.in_ok-aggregate.ensures c.in_ok-indices.ensures)
