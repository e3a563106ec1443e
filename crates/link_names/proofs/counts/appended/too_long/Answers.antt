use Rattle.std.proofs.Common.{◌-◌, ◌^◌, ◌<◌, sym, ap, ◌∙◌, lit<}
use Rattle.std.specs.Option.{option_map}
use Rattle.linkage_rules.specs.Ids.{modules}
use Rattle.linkage_rules.specs.Resolving.Places.{clamped}
use Rattle.link_names.specs.Counts.Told.{appended_of, if_long}
use Rattle.link_names.proofs.OnCounts.Sizes.{long_clamped, plain_long, variable_long}
use Rattle.link_names.proofs.counts.appended.too_long.Goals as goal

pub returns-in-Variable : goal.returns-in-Variable
returns-in-Variable c =
    let ms = modules c.args.parts.now in
    let s = c.args.symbol.now in
    let small : 2 ^ 40 < 2 ^ 64 - 1 = lit< tt in
    c.if_long.ensures ∙ ap if_long c.appended_of.ensures ∙ long_clamped small (appended_of ms s)
    ∙ sym (ap (option_map clamped) (variable_long ms s (sym c.kind.ensures ∙ c.in-Variable.is)))

pub returns-in-Function : goal.returns-in-Function
returns-in-Function c =
    let ms = modules c.args.parts.now in
    sym (ap (option_map clamped) (plain_long ms c.args.symbol.now c.kind.result c.kind.ensures c.in-Function.is))
