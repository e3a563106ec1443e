use Rattle.std.proofs.Common.{subst, sym}
use Rattle.ir_tables.specs.declared.opcode.Opcode.TheVariants as op
use Rattle.body_read.specs.Operands.Found.{Finds}
use Rattle.body_read.specs.Lines.Kept.{GivesInst, operation_in}
use Rattle.body_read.proofs.OnOperands.Leaves.{type_found}
use Rattle.body_read.specs.Lines.Operations.{operation}
use Rattle.body_read.proofs.OnLines.Fields.{alignment_found}
use Rattle.body_read.proofs.OnLines.Memory.{alloca_found}
use Rattle.body_read.proofs.lines.addresses.read_alloca.Goals as goal

pub returns : goal.returns
returns c =
    let m0 = c.args.m.now in
    let m1 = c.read_type-ty.new.m in
    let m2 = c.read_optional_operand.new.m in
    let s = c.read_alignment-align.new.reader in
    let m3 = record m2 { reader = s } in
    subst (Finds (GivesInst c.args.defined) operation_in (λ k. (operation k op.Alloca).read) m0 m3) (sym c.alloca_of.ensures)
    (alloca_found c.args.defined m0 m1 m2 m3 c.read_type-ty.result c.in_ok-count.count c.read_alignment-align.result
    (type_found m0 m1 c.read_type-ty.result c.read_type-ty.ensures.takes c.read_type-ty.ensures.known c.read_type-ty.ensures.reads)
    c.in_ok-count.ensures (alignment_found m2 s c.read_alignment-align.result c.read_alignment-align.ensures))
