use Rattle.std.proofs.Common.{◌≡◌, List, length, arith}
use Rattle.module_arena.specs.declared.constant.TypedConst.{TypedConst}
use Rattle.module_arena.specs.Module.{Constant}
use Rattle.extract_rules.specs.KeptNames.Marks.{in_const}
use Rattle.extract_rules.proofs.Adding.{item_at}
use Rattle.extract_rules.proofs.OnKeptNames.Marking.{more_marked, whole_marked}
use Rattle.extract_rules.proofs.kept_names.marks.mark_all_typed.Goals as goal

pub loop-typed-preserved : goal.loop-typed-preserved
loop-typed-preserved c =
    more_marked (λ (cs : List Constant). λ (t : TypedConst). in_const cs t.value) c.args.list.now c.loop-typed.typed-index c.typed-item.result c.args.marks.now c.loop-typed.marks c.mark.new.marks
    (item_at c.args.list.now c.loop-typed.typed-index c.typed-item.result c.loop-typed-test.true c.typed-item.is) c.loop-typed.invariant c.mark.ensures

pub returns : goal.returns
returns c =
    let end : c.loop-typed.typed-index ≡ length c.args.list.now = omega (arith, c.loop-typed-test.false, c.loop-typed.auto.typed-index-end) in
    whole_marked (λ (cs : List Constant). λ (t : TypedConst). in_const cs t.value) c.args.list.now c.loop-typed.typed-index c.args.marks.now c.loop-typed.marks end c.loop-typed.invariant
