use Rattle.std.proofs.Common.{arith, subst, sym}
use Rattle.ir_tables.specs.declared.opcode.Opcode.TheVariants as op
use Rattle.record_table.specs.Lines.{ending}
use Rattle.type_read.proofs.OnArena.Lasting.{ok_by}
use Rattle.body_read.specs.Operands.Found.{Finds}
use Rattle.body_read.proofs.OnOperands.Leaves.{block_found}
use Rattle.body_read.specs.Endings.Ends.{HasEnding, ending_in}
use Rattle.body_read.proofs.OnEndings.Parts.{jump_found, branch_found, branch_stopped}
use Rattle.body_read.proofs.endings.branch.read_branch.Goals as goal

pub returns-in-0 : goal.returns-in-0
returns-in-0 c =
    let m0 = c.args.m.now in
    let r = c.number.new.self in
    let m2 = c.read_block-target.new.m in
    subst (Finds HasEnding ending_in (λ k. (ending k op.Br).read) m0 m2) (sym c.jump_to.ensures)
    (jump_found m0 r m2 c.number.result c.read_block-target.result c.number.ensures c.in-0.is (block_found (record m0 { reader = r }) m2 c.read_block-target.result c.read_block-target.ensures.takes c.read_block-target.ensures.reads))

pub returns-in-1 : goal.returns-in-1
returns-in-1 c = ok_by c.read_condition.result _ _ c.read_condition.ensures (λ x h. branch_found c.args.m.now c.number.new.self c.read_condition.new.m c.number.result x c.number.ensures c.in-1.is h)

pub returns-in_default : goal.returns-in_default
returns-in_default c = branch_stopped c.args.m.now c.number.new.self c.stop.new.self c.number.result c.number.ensures (omega arith) c.stop.ensures c.stops_where_broken.ensures
