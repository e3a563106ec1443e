use Rattle.std.proofs.Common.{Option, ◌∙◌, ap, subst, sym}
use Rattle.std.specs.Option.{option_map}
use Rattle.ir_tables.specs.declared.opcode.Opcode.TheVariants as op
use Rattle.module_arena.specs.declared.instruction.Choice.{Choice}
use Rattle.module_arena.specs.declared.instruction.Inst.TheVariants as inst
use Rattle.type_read.proofs.OnArena.Lasting.{ok_by}
use Rattle.type_read.proofs.OnArena.Steps.{goes_two, still_known}
use Rattle.body_read.specs.Operands.Found.{Finds}
use Rattle.body_read.specs.Lines.Kept.{GivesInst, operation_in}
use Rattle.body_read.specs.Lines.Operations.{operation}
use Rattle.body_read.proofs.OnLines.Found.{select_found}
use Rattle.body_read.proofs.lines.operations.read_select.Goals as goal

pub read_operand_of-requires-2 : goal.read_operand_of-requires-2
read_operand_of-requires-2 c = still_known c.read_type-ty.new.m c.read_operand_of.new.m c.read_type-ty.result c.in_ok-condition.ensures.goes c.read_type-ty.ensures.known

pub read_operand_of-requires-3 : goal.read_operand_of-requires-3
read_operand_of-requires-3 c =
    let m1 = c.read_type-ty.new.m in
    let m2 = c.read_operand_of.new.m in
    let m3 = c.read_operand_of-2.new.m in
    still_known m1 m3 c.read_type-ty.result (goes_two m1 m2 m3 c.in_ok-condition.ensures.goes c.in_ok-first.ensures.goes) c.read_type-ty.ensures.known

pub returns : goal.returns
returns c =
    let m0 = c.args.m.now in
    let m1 = c.read_type-ty.new.m in
    let m2 = c.read_operand_of.new.m in
    let m3 = c.read_operand_of-2.new.m in
    let m4 = c.read_operand_of-3.new.m in
    ok_by c.select_of.result _ _ c.select_of.ensures
    (λ made is. subst (Finds (GivesInst c.args.defined) operation_in (λ k. (operation k op.Select).read) m0 m4)
    (sym (is ∙ ap (λ (x : Option Choice). option_map (λ (y : Choice). inst.Select c.args.defined y) x) c.choice_of-choice.ensures))
    (select_found c.args.defined c.bit-bit.result m0 m1 m2 m3 m4 c.read_type-ty.result c.in_ok-condition.condition c.in_ok-first.first c.in_ok-second.second c.read_type-ty.ensures.takes c.read_type-ty.ensures.reads c.bit-bit.ensures.is
    c.in_ok-condition.ensures c.in_ok-first.ensures c.in_ok-second.ensures))
