use Rattle.std.proofs.Common.{◌≡◌, List, length, arith}
use Rattle.module_arena.specs.declared.instruction.Case.{Case}
use Rattle.module_arena.specs.Module.{Constant}
use Rattle.extract_rules.specs.KeptNames.Marks.{in_const}
use Rattle.extract_rules.proofs.Adding.{item_at}
use Rattle.extract_rules.proofs.OnKeptNames.Marking.{more_marked, whole_marked}
use Rattle.extract_rules.proofs.kept_names.marks.mark_all_cases.Goals as goal

pub loop-case-preserved : goal.loop-case-preserved
loop-case-preserved c =
    more_marked (λ (cs : List Constant). λ (c : Case). in_const cs c.value) c.args.cases.now c.loop-case.case-index c.case-item.result c.args.marks.now c.loop-case.marks c.mark.new.marks
    (item_at c.args.cases.now c.loop-case.case-index c.case-item.result c.loop-case-test.true c.case-item.is) c.loop-case.invariant c.mark.ensures

pub returns : goal.returns
returns c =
    let end : c.loop-case.case-index ≡ length c.args.cases.now = omega (arith, c.loop-case-test.false, c.loop-case.auto.case-index-end) in
    whole_marked (λ (cs : List Constant). λ (c : Case). in_const cs c.value) c.args.cases.now c.loop-case.case-index c.args.marks.now c.loop-case.marks end c.loop-case.invariant
