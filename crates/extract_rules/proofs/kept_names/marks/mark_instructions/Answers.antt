use Rattle.std.proofs.Common.{◌≡◌, List, length, arith}
use Rattle.module_arena.specs.declared.instruction.Inst.{Inst}
use Rattle.module_arena.specs.Module.{Constant}
use Rattle.extract_rules.specs.KeptNames.Marks.{in_inst}
use Rattle.extract_rules.proofs.Adding.{item_at}
use Rattle.extract_rules.proofs.OnKeptNames.Marking.{more_marked, whole_marked}
use Rattle.extract_rules.proofs.kept_names.marks.mark_instructions.Goals as goal

pub loop-instruction-preserved : goal.loop-instruction-preserved
loop-instruction-preserved c =
    more_marked (λ (cs : List Constant). λ (x : Inst). in_inst cs x) c.args.instructions.now c.loop-instruction.instruction-index c.instruction-item.result c.args.marks.now c.loop-instruction.marks c.mark_instruction.new.marks
    (item_at c.args.instructions.now c.loop-instruction.instruction-index c.instruction-item.result c.loop-instruction-test.true c.instruction-item.is) c.loop-instruction.invariant c.mark_instruction.ensures

pub returns : goal.returns
returns c =
    let end : c.loop-instruction.instruction-index ≡ length c.args.instructions.now = omega (arith, c.loop-instruction-test.false, c.loop-instruction.auto.instruction-index-end) in
    whole_marked (λ (cs : List Constant). λ (x : Inst). in_inst cs x) c.args.instructions.now c.loop-instruction.instruction-index c.args.marks.now c.loop-instruction.marks end c.loop-instruction.invariant
