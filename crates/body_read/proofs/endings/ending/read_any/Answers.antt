use Rattle.std.proofs.Common.{Some, subst, sym}
use Rattle.ir_tables.specs.declared.opcode.Opcode.{Opcode}
use Rattle.module_arena.specs.declared.instruction.Ending.TheVariants as kept
use Rattle.record_table.specs.Lines.{ending}
use Rattle.type_read.proofs.OnArena.Lasting.{ok_by}
use Rattle.body_read.specs.Operands.Found.{Finds}
use Rattle.body_read.specs.Endings.Ends.{HasEnding, ending_in}
use Rattle.body_read.proofs.OnEndings.Parts.{unreachable_found, unreachable_is}
use Rattle.body_read.proofs.endings.ending.read_any.Goals as goal

pub returns-in-Ret : goal.returns-in-Ret
returns-in-Ret c =
    ok_by c.read_return.result _ _ c.read_return.ensures
    (λ x h. subst (λ (o : Opcode). Finds HasEnding ending_in (λ k. (ending k o).read) c.args.m.now c.read_return.new.m x) (sym c.in-Ret.is) h)

pub returns-in-Br : goal.returns-in-Br
returns-in-Br c =
    ok_by c.read_branch.result _ _ c.read_branch.ensures
    (λ x h. subst (λ (o : Opcode). Finds HasEnding ending_in (λ k. (ending k o).read) c.args.m.now c.read_branch.new.m x) (sym c.in-Br.is) h)

pub returns-in-Switch : goal.returns-in-Switch
returns-in-Switch c =
    ok_by c.read_switch.result _ _ c.read_switch.ensures
    (λ x h. subst (λ (o : Opcode). Finds HasEnding ending_in (λ k. (ending k o).read) c.args.m.now c.read_switch.new.m x) (sym c.in-Switch.is) h)

pub returns-in_default : goal.returns-in_default
returns-in_default c =
    subst (λ (o : Opcode). Finds HasEnding ending_in (λ k. (ending k o).read) c.args.m.now c.args.m.now (Some kept.Unreachable))
    (sym (unreachable_is c.args.opcode c.requires c.in_default.not-Ret c.in_default.not-Br c.in_default.not-Switch)) (unreachable_found c.args.m.now)
