use Rattle.std.proofs.Common.{Option, Some, sym, ap, ◌∙◌}
use Rattle.std.specs.Option.{option_map}
use Rattle.linkage_rules.specs.declared.clash.EntryClash.{EntryClash}
use Rattle.linkage_rules.specs.Entries.{Entry}
use Rattle.linkage_rules.specs.Grouped.{told_of}
use Rattle.linkage_rules.specs.Ids.{modules, seen}
use Rattle.linkage_rules.proofs.Seen.{seen_part}
use Rattle.linkage_rules.proofs.clash.clash_behind.Goals as goal

pub returns-in-Some : goal.returns-in-Some
returns-in-Some c =
    let parts = c.args.parts.now in
    let one : Entry = seen (modules parts) c.args.one in
    let own = sym (seen_part parts c.args.one c.requires.one) in
    let others = sym (seen_part parts c.in-Some.other c.in-Some.ensures.known) in
    (λ j. let clash : EntryClash = record { kind = c.args.kind; one = own j; other = others j } in Some clash)
    ∙ ap (λ (o : Option Entry). option_map (told_of c.args.kind) (option_map {U = Entry × Entry} (λ b. (one, b)) o)) c.in-Some.ensures.first
