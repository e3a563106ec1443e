use Rattle.std.proofs.Common.{◌∷◌, [], map, ◌∙◌}
use Rattle.linkage_rules.specs.Conflicts.{FunctionAndVariable, AppendingAndPlain, ElementShape, Constness}
use Rattle.linkage_rules.specs.Ids.{modules, seen}
use Rattle.linkage_rules.proofs.FirstConflict.{kind_or_later, last_kind}
use Rattle.linkage_rules.proofs.clash.later_clash.Goals as goal

pub returns : goal.returns
returns c =
    let parts = modules c.args.parts.now in
    let es = map (seen parts) c.args.ids.now in
    let constness = last_kind parts es Constness c.first_clash-constness.result c.first_clash-constness.ensures in
    let shape = c.or.ensures ∙ kind_or_later parts es ElementShape (Constness ∷ []) c.first_clash-shape.result c.first_clash-constness.result c.first_clash-shape.ensures constness in
    let appending = c.or-2.ensures ∙ kind_or_later parts es AppendingAndPlain (ElementShape ∷ Constness ∷ []) c.first_clash-appending.result c.or.result c.first_clash-appending.ensures shape in
    c.or-3.ensures ∙ kind_or_later parts es FunctionAndVariable (AppendingAndPlain ∷ ElementShape ∷ Constness ∷ []) c.first_clash-kind.result c.or-2.result c.first_clash-kind.ensures appending
