use Rattle.std.proofs.Common.{subst, sym}
use Rattle.ir_tables.specs.declared.opcode.Opcode.{Opcode}
use Rattle.module_arena.specs.Module as m
use Rattle.record_table.specs.Fields.{Numbering}
use Rattle.record_table.specs.Walk.{Walk}
use Rattle.type_read.proofs.OnArena.Lasting.{ok_by}
use Rattle.body_read.specs.Operands.Found.{Finds}
use Rattle.body_read.specs.Lines.Kept.{GivesInst, operation_in}
use Rattle.body_read.specs.Lines.Operations.{operation}
use Rattle.body_read.proofs.OnLines.Opcodes.{computation_is}
use Rattle.body_read.proofs.lines.opcode.read_operation.Goals as goal

pub returns-in-ICmp : goal.returns-in-ICmp
returns-in-ICmp c =
    ok_by c.read_comparison.result _ _ c.read_comparison.ensures
    (λ x h. subst (λ (o : Opcode). Finds (GivesInst c.args.defined) operation_in (λ k. (operation k o).read) c.args.m.now c.read_comparison.new.m x) (sym c.in-ICmp.is) h)

pub returns-in-Select : goal.returns-in-Select
returns-in-Select c =
    ok_by c.read_select.result _ _ c.read_select.ensures
    (λ x h. subst (λ (o : Opcode). Finds (GivesInst c.args.defined) operation_in (λ k. (operation k o).read) c.args.m.now c.read_select.new.m x) (sym c.in-Select.is) h)

pub returns-in-Freeze : goal.returns-in-Freeze
returns-in-Freeze c =
    ok_by c.read_freeze.result _ _ c.read_freeze.ensures
    (λ x h. subst (λ (o : Opcode). Finds (GivesInst c.args.defined) operation_in (λ k. (operation k o).read) c.args.m.now c.read_freeze.new.m x) (sym c.in-Freeze.is) h)

pub returns-in-Phi : goal.returns-in-Phi
returns-in-Phi c =
    ok_by c.read_phi.result _ _ c.read_phi.ensures
    (λ x h. subst (λ (o : Opcode). Finds (GivesInst c.args.defined) operation_in (λ k. (operation k o).read) c.args.m.now c.read_phi.new.m x) (sym c.in-Phi.is) h)

pub returns-in-Load : goal.returns-in-Load
returns-in-Load c =
    ok_by c.read_load.result _ _ c.read_load.ensures
    (λ x h. subst (λ (o : Opcode). Finds (GivesInst c.args.defined) operation_in (λ k. (operation k o).read) c.args.m.now c.read_load.new.m x) (sym c.in-Load.is) h)

pub returns-in-Alloca : goal.returns-in-Alloca
returns-in-Alloca c =
    ok_by c.read_alloca.result _ _ c.read_alloca.ensures
    (λ x h. subst (λ (o : Opcode). Finds (GivesInst c.args.defined) operation_in (λ k. (operation k o).read) c.args.m.now c.read_alloca.new.m x) (sym c.in-Alloca.is) h)

pub returns-in-GetElementPtr : goal.returns-in-GetElementPtr
returns-in-GetElementPtr c =
    ok_by c.read_steps.result _ _ c.read_steps.ensures
    (λ x h. subst (λ (o : Opcode). Finds (GivesInst c.args.defined) operation_in (λ k. (operation k o).read) c.args.m.now c.read_steps.new.m x) (sym c.in-GetElementPtr.is) h)

pub returns-in-ExtractValue : goal.returns-in-ExtractValue
returns-in-ExtractValue c =
    ok_by c.read_extraction.result _ _ c.read_extraction.ensures
    (λ x h. subst (λ (o : Opcode). Finds (GivesInst c.args.defined) operation_in (λ k. (operation k o).read) c.args.m.now c.read_extraction.new.m x) (sym c.in-ExtractValue.is) h)

pub returns-in-InsertValue : goal.returns-in-InsertValue
returns-in-InsertValue c =
    ok_by c.read_insertion.result _ _ c.read_insertion.ensures
    (λ x h. subst (λ (o : Opcode). Finds (GivesInst c.args.defined) operation_in (λ k. (operation k o).read) c.args.m.now c.read_insertion.new.m x) (sym c.in-InsertValue.is) h)

pub returns-in-Trunc : goal.returns-in-Trunc
returns-in-Trunc c =
    ok_by c.read_conversion.result _ _ c.read_conversion.ensures
    (λ x h. subst (λ (o : Opcode). Finds (GivesInst c.args.defined) operation_in (λ k. (operation k o).read) c.args.m.now c.read_conversion.new.m x) (sym c.in-Trunc.is) h)

pub returns-in-ZExt : goal.returns-in-ZExt
returns-in-ZExt c =
    ok_by c.read_conversion-in-ZExt.result _ _ c.read_conversion-in-ZExt.ensures
    (λ x h. subst (λ (o : Opcode). Finds (GivesInst c.args.defined) operation_in (λ k. (operation k o).read) c.args.m.now c.read_conversion-in-ZExt.new.m x) (sym c.in-ZExt.is) h)

pub returns-in-SExt : goal.returns-in-SExt
returns-in-SExt c =
    ok_by c.read_conversion-in-SExt.result _ _ c.read_conversion-in-SExt.ensures
    (λ x h. subst (λ (o : Opcode). Finds (GivesInst c.args.defined) operation_in (λ k. (operation k o).read) c.args.m.now c.read_conversion-in-SExt.new.m x) (sym c.in-SExt.is) h)

pub returns-in-PtrToInt : goal.returns-in-PtrToInt
returns-in-PtrToInt c =
    ok_by c.read_conversion-in-PtrToInt.result _ _ c.read_conversion-in-PtrToInt.ensures
    (λ x h. subst (λ (o : Opcode). Finds (GivesInst c.args.defined) operation_in (λ k. (operation k o).read) c.args.m.now c.read_conversion-in-PtrToInt.new.m x) (sym c.in-PtrToInt.is) h)

pub returns-in-IntToPtr : goal.returns-in-IntToPtr
returns-in-IntToPtr c =
    ok_by c.read_conversion-in-IntToPtr.result _ _ c.read_conversion-in-IntToPtr.ensures
    (λ x h. subst (λ (o : Opcode). Finds (GivesInst c.args.defined) operation_in (λ k. (operation k o).read) c.args.m.now c.read_conversion-in-IntToPtr.new.m x) (sym c.in-IntToPtr.is) h)

pub returns-in_default : goal.returns-in_default
returns-in_default c =
    ok_by c.read_computation.result _ _ c.read_computation.ensures
    (λ x h. subst (λ (l : Numbering → Walk → m.Operation × Walk). Finds (GivesInst c.args.defined) operation_in l c.args.m.now c.read_computation.new.m x)
    (λ j k. (computation_is k c.args.opcode c.requires c.in_default.not-ICmp c.in_default.not-Trunc c.in_default.not-ZExt c.in_default.not-SExt c.in_default.not-PtrToInt c.in_default.not-IntToPtr c.in_default.not-Select c.in_default.not-Freeze c.in_default.not-Phi c.in_default.not-Load c.in_default.not-Alloca c.in_default.not-GetElementPtr c.in_default.not-ExtractValue c.in_default.not-InsertValue j).read) h)
