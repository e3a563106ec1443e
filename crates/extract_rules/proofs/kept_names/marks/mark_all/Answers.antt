use Rattle.std.proofs.Common.{◌≡◌, List, length, arith}
use Rattle.module_arena.specs.declared.instruction.Operand.{Operand}
use Rattle.module_arena.specs.Module.{Constant}
use Rattle.extract_rules.specs.KeptNames.Marks.{in_operand}
use Rattle.extract_rules.proofs.Adding.{item_at}
use Rattle.extract_rules.proofs.OnKeptNames.Marking.{more_marked, whole_marked}
use Rattle.extract_rules.proofs.kept_names.marks.mark_all.Goals as goal

pub loop-operand-preserved : goal.loop-operand-preserved
loop-operand-preserved c =
    more_marked (λ (cs : List Constant). λ (x : Operand). in_operand cs x) c.args.operands.now c.loop-operand.operand-index c.operand-item.result c.args.marks.now c.loop-operand.marks c.mark_value.new.marks
    (item_at c.args.operands.now c.loop-operand.operand-index c.operand-item.result c.loop-operand-test.true c.operand-item.is) c.loop-operand.invariant c.mark_value.ensures

pub returns : goal.returns
returns c =
    let end : c.loop-operand.operand-index ≡ length c.args.operands.now = omega (arith, c.loop-operand-test.false, c.loop-operand.auto.operand-index-end) in
    whole_marked (λ (cs : List Constant). λ (x : Operand). in_operand cs x) c.args.operands.now c.loop-operand.operand-index c.args.marks.now c.loop-operand.marks end c.loop-operand.invariant
