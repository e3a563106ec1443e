use Rattle.std.proofs.Common.{arith}
use Rattle.ir_syntax.specs.View.{items_view}
use Rattle.name_rules.specs.ModuleOf.{alias_in}
use Rattle.name_judge.proofs.Counted.{no_longer}
use Rattle.name_judge.proofs.counts.check_counts.Goals as goal

pub counted_aliases-aliases-requires-clause-aliases : goal.counted_aliases-aliases-requires-clause-aliases
counted_aliases-aliases-requires-clause-aliases c =
    let few = no_longer alias_in (items_view c.args.items.now) in
    let same = c.counts_of-counts.ensures.aliases in
    omega (arith, few, same, c.requires.few)
