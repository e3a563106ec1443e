use Rattle.std.proofs.Common.{subst, sym}
use Rattle.ir_tables.specs.declared.opcode.Opcode.TheVariants as op
use Rattle.body_read.specs.Operands.Found.{Finds}
use Rattle.body_read.specs.Lines.Kept.{GivesInst, operation_in}
use Rattle.body_read.proofs.OnOperands.Leaves.{type_found}
use Rattle.body_read.specs.Lines.Operations.{operation}
use Rattle.body_read.proofs.OnLines.Fields.{alignment_found, flags_found}
use Rattle.body_read.proofs.OnLines.Memory.{load_found}
use Rattle.body_read.proofs.lines.addresses.read_load.Goals as goal

pub returns : goal.returns
returns c =
    let m0 = c.args.m.now in
    let r = c.read_flags-flags.new.reader in
    let m1 = record m0 { reader = r } in
    let m2 = c.read_type-ty.new.m in
    let m3 = c.read_address.new.m in
    let s = c.read_alignment-align.new.reader in
    let m4 = record m3 { reader = s } in
    subst (Finds (GivesInst c.args.defined) operation_in (λ k. (operation k op.Load).read) m0 m4) (sym c.load_of.ensures)
    (load_found c.args.defined m0 m1 m2 m3 m4 c.read_flags-flags.result c.read_type-ty.result c.in_ok-address.address c.read_alignment-align.result
    (flags_found op.Load m0 r c.read_flags-flags.result c.read_flags-flags.ensures.kept c.read_flags-flags.ensures.reader)
    (type_found m1 m2 c.read_type-ty.result c.read_type-ty.ensures.takes c.read_type-ty.ensures.known c.read_type-ty.ensures.reads)
    c.in_ok-address.ensures (alignment_found m3 s c.read_alignment-align.result c.read_alignment-align.ensures))
