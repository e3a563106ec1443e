use Rattle.std.proofs.Common.{map, ◌∙◌}
use Rattle.linkage_rules.specs.Conflicts.{TwoStrong}
use Rattle.linkage_rules.specs.Grouped.{later_kinds}
use Rattle.linkage_rules.specs.Ids.{modules, seen}
use Rattle.linkage_rules.proofs.FirstConflict.{kind_or_later}
use Rattle.linkage_rules.proofs.clash.conflict_among.Goals as goal

pub returns : goal.returns
returns c =
    let parts = modules c.args.parts.now in
    c.or.ensures ∙ kind_or_later parts (map (seen parts) c.args.ids.now) TwoStrong later_kinds c.first_clash.result c.later_clash.result c.first_clash.ensures c.later_clash.ensures
