use Rattle.std.proofs.Common.{subst, sym}
use Rattle.ir_tables.specs.declared.opcode.Opcode.TheVariants as op
use Rattle.body_read.specs.Operands.Found.{Finds}
use Rattle.body_read.specs.Lines.Kept.{GivesInst, operation_in}
use Rattle.body_read.specs.Lines.Operations.{operation}
use Rattle.body_read.proofs.OnLines.Found.{phi_found}
use Rattle.body_read.proofs.lines.phi.read_phi.Goals as goal

pub returns : goal.returns
returns c =
    let m0 = c.args.m.now in
    let m1 = c.read_type-ty.new.m in
    let m2 = c.read_incoming.new.m in
    subst (Finds (GivesInst c.args.defined) operation_in (λ k. (operation k op.Phi).read) m0 m2) (sym c.phi_of.ensures)
    (phi_found c.args.defined m0 m1 m2 c.read_type-ty.result c.in_ok-incoming.incoming c.read_type-ty.ensures.takes c.read_type-ty.ensures.known c.read_type-ty.ensures.reads c.in_ok-incoming.ensures)
