use Rattle.std.proofs.Common.{subst, sym}
use Rattle.ir_tables.specs.declared.opcode.Opcode.TheVariants as op
use Rattle.body_read.specs.Operands.Found.{Finds}
use Rattle.body_read.specs.Lines.Kept.{GivesInst, operation_in}
use Rattle.type_read.proofs.OnArena.Steps.{still_known}
use Rattle.body_read.specs.Lines.Operations.{operation}
use Rattle.body_read.proofs.OnLines.Fields.{flags_found, predicate_found}
use Rattle.body_read.proofs.OnLines.Found.{comparison_found, pair_found}
use Rattle.body_read.proofs.lines.operations.read_comparison.Goals as goal

pub read_value-requires : goal.read_value-requires
read_value-requires c = still_known c.read_type-ty.new.m c.read_operand_of.new.m c.read_type-ty.result c.in_ok-left.ensures.goes c.read_type-ty.ensures.known

pub returns : goal.returns
returns c =
    let m0 = c.args.m.now in
    let r = c.read_flags-flags.new.reader in
    let m1 = record m0 { reader = r } in
    let s = c.read_predicate-predicate.new.reader in
    let m2 = record m0 { reader = s } in
    let m3 = c.read_type-ty.new.m in
    let m4 = c.read_operand_of.new.m in
    let m5 = c.read_value.new.m in
    subst (Finds (GivesInst c.args.defined) operation_in (λ k. (operation k op.ICmp).read) m0 m5) (sym c.comparison_of.ensures)
    (comparison_found c.args.defined m0 m1 m2 m5 c.read_flags-flags.result c.read_predicate-predicate.result c.in_ok-left.left c.in_ok-right.right (flags_found op.ICmp m0 r c.read_flags-flags.result c.read_flags-flags.ensures.kept c.read_flags-flags.ensures.reader)
    (predicate_found m1 s c.read_predicate-predicate.result c.read_predicate-predicate.ensures)
    (pair_found m2 m3 m4 m5 c.read_type-ty.result c.in_ok-left.left c.in_ok-right.right c.read_type-ty.ensures.takes c.read_type-ty.ensures.reads c.in_ok-left.ensures c.in_ok-right.ensures))
