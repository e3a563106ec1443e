use Rattle.std.proofs.Common.{◌++◌, ◌∷◌, [], List, ap, ◌∙◌}
use Rattle.linkage_rules.specs.declared.entry.EntryId.{EntryId}
use Rattle.linkage_rules.proofs.groups.alone.Goals as goal

pub returns : goal.returns
returns c = c.from_vec.ensures ∙ c.in_ok-push.ensures.items ∙ ap (λ (ids : List EntryId). ids ++ c.args.id ∷ []) c.in_ok-ids.ensures.items
