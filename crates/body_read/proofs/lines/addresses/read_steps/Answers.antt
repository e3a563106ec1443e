use Rattle.std.proofs.Common.{subst, sym}
use Rattle.ir_tables.specs.declared.opcode.Opcode.TheVariants as op
use Rattle.body_read.specs.Operands.Found.{Finds}
use Rattle.body_read.specs.Lines.Kept.{GivesInst, operation_in}
use Rattle.body_read.proofs.OnOperands.Leaves.{type_found}
use Rattle.body_read.specs.Lines.Operations.{operation}
use Rattle.body_read.proofs.OnLines.Fields.{flags_found}
use Rattle.body_read.proofs.OnLines.Memory.{steps_found}
use Rattle.body_read.proofs.lines.addresses.read_steps.Goals as goal

pub returns : goal.returns
returns c =
    let m0 = c.args.m.now in
    let r = c.read_flags-flags.new.reader in
    let m1 = record m0 { reader = r } in
    let m2 = c.read_type-source.new.m in
    let m3 = c.read_address.new.m in
    let m4 = c.read_operands.new.m in
    subst (Finds (GivesInst c.args.defined) operation_in (λ k. (operation k op.GetElementPtr).read) m0 m4) (sym c.steps_of.ensures)
    (steps_found c.args.defined m0 m1 m2 m3 m4 c.read_flags-flags.result c.read_type-source.result c.in_ok-base.base c.in_ok-indices.indices
    (flags_found op.GetElementPtr m0 r c.read_flags-flags.result c.read_flags-flags.ensures.kept c.read_flags-flags.ensures.reader)
    (type_found m1 m2 c.read_type-source.result c.read_type-source.ensures.takes c.read_type-source.ensures.known c.read_type-source.ensures.reads)
    c.in_ok-base.ensures c.in_ok-indices.ensures)
