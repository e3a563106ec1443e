use Rattle.std.proofs.Common.{subst, sym}
use Rattle.body_read.specs.Operands.Found.{Finds}
use Rattle.body_read.proofs.OnOperands.Leaves.{type_found}
use Rattle.body_read.specs.Lines.Kept.{GivesInst, operation_in}
use Rattle.body_read.specs.Lines.Operations.{conversion}
use Rattle.body_read.proofs.OnLines.Fields.{flags_found}
use Rattle.body_read.proofs.OnLines.Found.{conversion_found}
use Rattle.body_read.proofs.lines.operations.read_conversion.Goals as goal

pub returns : goal.returns
returns c =
    let m0 = c.args.m.now in
    let r = c.read_flags-flags.new.reader in
    let m1 = record m0 { reader = r } in
    let m2 = c.read_operand.new.m in
    let m3 = c.read_type-to.new.m in
    subst (Finds (GivesInst c.args.defined) operation_in (λ k. (conversion k c.args.opcode).read) m0 m3) (sym c.conversion_of.ensures)
    (conversion_found c.args.opcode c.args.defined m0 m1 m2 m3 c.read_flags-flags.result c.in_ok-value.value c.read_type-to.result (flags_found c.args.opcode m0 r c.read_flags-flags.result c.read_flags-flags.ensures.kept c.read_flags-flags.ensures.reader)
    c.in_ok-value.ensures (type_found m2 m3 c.read_type-to.result c.read_type-to.ensures.takes c.read_type-to.ensures.known c.read_type-to.ensures.reads))
