use Rattle.std.proofs.Common.{ap₂, ◌∙◌}
use Rattle.std.specs.Option.{option_or}
use Rattle.linkage_rules.specs.Ids.{modules}
use Rattle.link_names.proofs.OnCounts.FirstPast.{all_told}
use Rattle.link_names.proofs.counts.limits.too_many.Goals as goal

pub returns : goal.returns
returns c =
    let counts = c.count_symbols-counts in
    all_told (modules c.args.parts.now) c.args.structs counts.result c.too_many_entries.result c.or.result c.first_appended-appended.result c.requires.structs counts.ensures.variables counts.ensures.functions counts.ensures.aliases
    c.too_many_entries.ensures c.first_appended-appended.ensures (c.or.ensures ∙ ap₂ option_or (λ _. c.too_many_entries.result) c.count_of_bytes.ensures)
