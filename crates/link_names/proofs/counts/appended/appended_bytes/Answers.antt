use Rattle.std.proofs.Common.{◌*◌, ◌-◌, ◌^◌, max, min, filter, map, ap, ap₂, ◌∙◌}
use Rattle.linkage_rules.specs.Ids.{modules, seen}
use Rattle.linkage_rules.specs.Globals.{element_of, type_of}
use Rattle.linkage_rules.specs.Addresses.{joined_length}
use Rattle.linkage_rules.specs.Winner.{is_definition, size_in}
use Rattle.link_names.proofs.OnCounts.Clamped.{bytes_clamped}
use Rattle.link_names.proofs.counts.appended.appended_bytes.Goals as goal

pub returns : goal.returns
returns c =
    let ms = modules c.args.parts.now in
    let e = seen ms c.args.home in
    c.max.ensures ∙ ap (max c.joined_length-length.result) c.saturating_mul.ensures
    ∙ ap₂ (λ l s. max l (min (l * s) (2 ^ 64 - 1))) c.joined_length-length.ensures c.element_size.ensures
    ∙ bytes_clamped (2 ^ 64 - 1) (joined_length (filter is_definition (map (seen ms) c.args.ids.now))) (size_in ms e.part (element_of (type_of e.global)))
