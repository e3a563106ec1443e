use Rattle.std.proofs.Common.{Option, ◌∙◌, ap, subst, sym}
use Rattle.std.specs.Option.{option_map}
use Rattle.ir_tables.specs.declared.opcode.Opcode.TheVariants as op
use Rattle.module_arena.specs.declared.instruction.Insertion.{Insertion}
use Rattle.module_arena.specs.declared.instruction.Inst.TheVariants as inst
use Rattle.type_read.proofs.OnArena.Lasting.{ok_by}
use Rattle.body_read.specs.Operands.Found.{Finds}
use Rattle.body_read.specs.Lines.Kept.{GivesInst, operation_in}
use Rattle.body_read.specs.Lines.Operations.{operation}
use Rattle.body_read.proofs.OnLines.Found.{insertion_found}
use Rattle.body_read.proofs.lines.operations.read_insertion.Goals as goal

pub returns : goal.returns
returns c =
    let m0 = c.args.m.now in
    let m1 = c.read_operand.new.m in
    let m2 = c.read_operand-2.new.m in
    let m3 = c.read_indices.new.m in
    ok_by c.insertion_of.result _ _ c.insertion_of.ensures
    (λ made is. subst (Finds (GivesInst c.args.defined) operation_in (λ k. (operation k op.InsertValue).read) m0 m3)
    (sym (is ∙ ap (λ (x : Option Insertion). option_map (λ (y : Insertion). inst.InsertValue c.args.defined y) x) c.insertion_parts-insertion.ensures))
    (insertion_found c.args.defined m0 m1 m2 m3 c.in_ok-aggregate.aggregate c.in_ok-part.part c.in_ok-indices.indices c.in_ok-aggregate.ensures c.in_ok-part.ensures c.in_ok-indices.ensures))
