use Rattle.std.proofs.Common.{subst, sym}
use Rattle.ir_tables.specs.declared.opcode.Opcode.TheVariants as op
use Rattle.record_table.specs.Lines.{ending}
use Rattle.type_read.proofs.OnArena.LeavesRead.{goes_takes}
use Rattle.type_read.proofs.OnArena.Steps.{goes_two, still_known}
use Rattle.body_read.specs.Operands.Found.{Finds}
use Rattle.body_read.proofs.OnOperands.Leaves.{block_found}
use Rattle.body_read.specs.Endings.Ends.{HasEnding, ending_in}
use Rattle.body_read.proofs.OnEndings.Parts.{switch_found}
use Rattle.body_read.proofs.endings.switch.read_switch.Goals as goal

pub read_cases-requires : goal.read_cases-requires
read_cases-requires c =
    let m1 = c.read_type-ty.new.m in
    let m2 = c.read_operand_of.new.m in
    let m3 = c.read_block-otherwise.new.m in
    still_known m1 m3 c.read_type-ty.result (goes_two m1 m2 m3 c.in_ok-value.ensures.goes (goes_takes m2 m3 c.read_block-otherwise.ensures.takes)) c.read_type-ty.ensures.known

pub returns : goal.returns
returns c =
    let m0 = c.args.m.now in
    let m1 = c.read_type-ty.new.m in
    let m2 = c.read_operand_of.new.m in
    let m3 = c.read_block-otherwise.new.m in
    let m4 = c.read_cases.new.m in
    subst (Finds HasEnding ending_in (λ k. (ending k op.Switch).read) m0 m4) (sym c.switch_of.ensures)
    (switch_found m0 m1 m2 m3 m4 c.read_type-ty.result c.in_ok-value.value c.read_block-otherwise.result c.in_ok-cases.cases c.read_type-ty.ensures.takes c.read_type-ty.ensures.reads c.in_ok-value.ensures
    (block_found m2 m3 c.read_block-otherwise.result c.read_block-otherwise.ensures.takes c.read_block-otherwise.ensures.reads) c.in_ok-cases.ensures)
