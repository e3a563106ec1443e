use Rattle.std.proofs.Common.{◌≡◌, List, length, arith}
use Rattle.module_arena.specs.declared.instruction.Incoming.{Incoming}
use Rattle.module_arena.specs.Module.{Constant}
use Rattle.extract_rules.specs.KeptNames.Marks.{in_value}
use Rattle.extract_rules.proofs.Adding.{item_at}
use Rattle.extract_rules.proofs.OnKeptNames.Marking.{more_marked, whole_marked}
use Rattle.extract_rules.proofs.kept_names.marks.mark_all_incoming.Goals as goal

pub loop-incoming-preserved : goal.loop-incoming-preserved
loop-incoming-preserved c =
    more_marked (λ (cs : List Constant). λ (i : Incoming). in_value cs i.value) c.args.list.now c.loop-incoming.incoming-index c.incoming-item.result c.args.marks.now c.loop-incoming.marks c.mark_value.new.marks
    (item_at c.args.list.now c.loop-incoming.incoming-index c.incoming-item.result c.loop-incoming-test.true c.incoming-item.is) c.loop-incoming.invariant c.mark_value.ensures

pub returns : goal.returns
returns c =
    let end : c.loop-incoming.incoming-index ≡ length c.args.list.now = omega (arith, c.loop-incoming-test.false, c.loop-incoming.auto.incoming-index-end) in
    whole_marked (λ (cs : List Constant). λ (i : Incoming). in_value cs i.value) c.args.list.now c.loop-incoming.incoming-index c.args.marks.now c.loop-incoming.marks end c.loop-incoming.invariant
