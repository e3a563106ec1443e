use Rattle.std.proofs.Common.{◌≡◌, ◌++◌, ◌∷◌, [], sym, ap, ◌∙◌}
use Rattle.std.specs.Prelude.{unwrap_or}
use Rattle.indexmap.specs.IndexMap.{insert_entry}
use Rattle.indexmap.proofs.MapLemmas.{Found-position, insert_entry-first}
use Rattle.linkage_rules.specs.Entries.{same_symbol}
use Rattle.linkage_rules.specs.Grouped.{group_in}
use Rattle.linkage_rules.proofs.groups.file.Goals as goal

pub returns-in-Some : goal.returns-in-Some
returns-in-Some c =
    let es = c.args.groups.now.entries in
    let s = c.args.symbol in
    let found = Found-position (same_symbol s) es c.in-Some.index (sym c.in-Some.ensures.index) in
    let group : group_in es s ≡ c.index_mut.result.now = ap (λ o. unwrap_or o []) (found.value ∙ c.index_mut.ensures.value) in
    sym (insert_entry-first same_symbol s c.push.new.self es c.in-Some.index found.first)
    ∙ ap (insert_entry same_symbol es s) (c.in_ok-push.ensures.ok ∙ ap (λ l. l ++ c.args.id ∷ []) (sym group))
