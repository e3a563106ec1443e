use Rattle.std.proofs.Common.{refl, subst}
use Rattle.extract_rules.proofs.OnKeptNames.Sweeping.{Sweeping, sweeping_none, sweeping_more}
use Rattle.extract_rules.proofs.kept_names.named.add_marked.Goals as goal

pub back-init : goal.back-init
back-init c = sweeping_none c.args.arena.now c.args.names.now.keys c.args.marks.now _ c.requires refl

pub back-preserved : goal.back-preserved
back-preserved c =
    subst (λ k. Sweeping c.args.arena.now c.args.names.now.keys c.args.marks.now k c.open_marked.new.names.keys c.open_marked.new.marks) c.new.ensures
    (sweeping_more c.args.arena.now c.variable_count-count.ensures.good c.args.names.now.keys c.args.marks.now c.back.next c.new.result c.back.names.keys c.open_marked.new.names.keys c.back.marks c.open_marked.new.marks
    c.back-test.true c.new.ensures c.in_ok-open_marked.ensures.names c.in_ok-open_marked.ensures.marks c.back.invariant)
