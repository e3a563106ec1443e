use Rattle.std.proofs.Common.{◌≡◌, map, sym, ap, ◌∙◌, subst, All}
use Rattle.std.specs.Option.{option_map}
use Rattle.linkage_rules.specs.Conflicts.{conflicts_of}
use Rattle.linkage_rules.specs.Entries.{Symbol, entries_of}
use Rattle.linkage_rules.specs.Grouped.{told_in}
use Rattle.linkage_rules.specs.Ids.{IsEntryId, modules, seen}
use Rattle.linkage_rules.specs.Lists.{first}
use Rattle.linkage_rules.proofs.FirstConflict.{told_of_name}
use Rattle.linkage_rules.proofs.clash.conflict_of.Goals as goal

pub conflict_among-requires : goal.conflict_among-requires
conflict_among-requires c = subst (All (IsEntryId c.args.parts.now)) (sym c.group.ensures) (c.requires.known c.args.symbol.now)

pub returns-in-Shared : goal.returns-in-Shared
returns-in-Shared c =
    let parts = modules c.args.parts.now in
    subst (λ (s : Symbol). option_map (told_in s) c.conflict_among.result ≡ first (conflicts_of parts s)) (sym c.in-Shared.is)
    (told_of_name parts _ (map (seen parts) c.group.result.now) c.conflict_among.result c.conflict_among.ensures
    (ap (map (seen parts)) c.group.ensures ∙ c.requires.groups c.args.symbol.now ∙ ap (entries_of parts) c.in-Shared.is))
