use Rattle.std.proofs.Common.{◌-◌, ◌^◌, ◌+◌, ◌<◌, min, sym, ap, ◌∙◌, arith}
use Rattle.linkage_rules.specs.Resolving.Places.{clamped}
use Rattle.link_names.proofs.OnCounts.Clamped.{no_aliases, some_aliases}
use Rattle.link_names.proofs.counts.limits.count_of_aliases.Goals as goal

pub returns-then-counts-eq0 : goal.returns-then-counts-eq0
returns-then-counts-eq0 c = sym (ap clamped (no_aliases c.args.counts.variables c.args.counts.functions c.args.counts.aliases (omega arith)))

pub returns-else-counts-eq0 : goal.returns-else-counts-eq0
returns-else-counts-eq0 c =
    let some : 0 < c.args.counts.aliases = omega arith in
    c.saturating_add.ensures ∙ ap (λ n. min (c.args.counts.aliases + n) (2 ^ 64 - 1)) c.max.ensures
    ∙ sym (ap clamped (some_aliases c.args.counts.variables c.args.counts.functions c.args.counts.aliases some))
