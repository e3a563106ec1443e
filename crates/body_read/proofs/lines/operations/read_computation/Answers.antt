use Rattle.std.proofs.Common.{subst, sym}
use Rattle.type_read.proofs.OnArena.Steps.{still_known}
use Rattle.body_read.specs.Operands.Found.{Finds}
use Rattle.body_read.specs.Lines.Kept.{GivesInst, operation_in}
use Rattle.body_read.specs.Lines.Operations.{computation}
use Rattle.body_read.proofs.OnLines.Fields.{flags_found}
use Rattle.body_read.proofs.OnLines.Found.{computation_found, pair_found}
use Rattle.body_read.proofs.lines.operations.read_computation.Goals as goal

pub read_value-requires : goal.read_value-requires
read_value-requires c = still_known c.read_type-ty.new.m c.read_operand_of.new.m c.read_type-ty.result c.in_ok-left.ensures.goes c.read_type-ty.ensures.known

pub returns : goal.returns
returns c =
    let m0 = c.args.m.now in
    let r = c.read_flags-flags.new.reader in
    let m1 = record m0 { reader = r } in
    let m2 = c.read_type-ty.new.m in
    let m3 = c.read_operand_of.new.m in
    let m4 = c.read_value.new.m in
    subst (Finds (GivesInst c.args.defined) operation_in (λ k. (computation k c.args.opcode).read) m0 m4) (sym c.binary_of.ensures)
    (computation_found c.args.opcode c.args.defined m0 m1 m4 c.read_flags-flags.result c.in_ok-left.left c.in_ok-right.right (flags_found c.args.opcode m0 r c.read_flags-flags.result c.read_flags-flags.ensures.kept c.read_flags-flags.ensures.reader)
    (pair_found m1 m2 m3 m4 c.read_type-ty.result c.in_ok-left.left c.in_ok-right.right c.read_type-ty.ensures.takes c.read_type-ty.ensures.reads c.in_ok-left.ensures c.in_ok-right.ensures))
