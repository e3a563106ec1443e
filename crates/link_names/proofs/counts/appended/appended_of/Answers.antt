use Rattle.std.proofs.Common.{◌≡◌, All, true, false, sym, ◌∙◌, subst, rules}
use Rattle.linkage_rules.specs.Grouped.{IsHome}
use Rattle.linkage_rules.specs.Ids.{IsEntryId}
use Rattle.linkage_rules.proofs.Standing.{home_known}
use Rattle.link_names.proofs.OnCounts.Sizes.{told_appended, none_there, not_appended}
use Rattle.link_names.proofs.counts.appended.appended_of.Goals as goal

pub returns-in_default : goal.returns-in_default
returns-in_default c = none_there c.args.parts.now c.args.bindings.now.groups c.args.bindings.now.homes c.requires.groups c.requires.homes c.args.symbol.now (sym c.in_default.is ∙ c.home.ensures)

pub is_appended-requires : goal.is_appended-requires
is_appended-requires c =
    (subst (IsHome c.args.parts.now) (sym c.home.ensures ∙ c.in-Some.is) (home_known c.args.parts.now c.args.bindings.now.groups c.args.bindings.now.homes c.requires.homes c.args.symbol.now)).0

pub returns-then-not-is_appended : goal.returns-then-not-is_appended
returns-then-not-is_appended c =
    let no : c.is_appended.result ≡ false = search rules in
    not_appended c.args.parts.now c.args.bindings.now.groups c.args.bindings.now.homes c.requires.groups c.requires.homes c.args.symbol.now c.in-Some.home (sym c.in-Some.is ∙ c.home.ensures) (sym c.is_appended.ensures ∙ no)

pub appended_bytes-requires-clause-home : goal.appended_bytes-requires-clause-home
appended_bytes-requires-clause-home c =
    (subst (IsHome c.args.parts.now) (sym c.home.ensures ∙ c.in-Some.is) (home_known c.args.parts.now c.args.bindings.now.groups c.args.bindings.now.homes c.requires.homes c.args.symbol.now)).0

pub appended_bytes-requires-clause-definition : goal.appended_bytes-requires-clause-definition
appended_bytes-requires-clause-definition c =
    (subst (IsHome c.args.parts.now) (sym c.home.ensures ∙ c.in-Some.is) (home_known c.args.parts.now c.args.bindings.now.groups c.args.bindings.now.homes c.requires.homes c.args.symbol.now)).1

pub appended_bytes-requires-clause-appended : goal.appended_bytes-requires-clause-appended
appended_bytes-requires-clause-appended c = let yes : c.is_appended.result ≡ true = search rules in sym c.is_appended.ensures ∙ yes

pub appended_bytes-requires-clause-known : goal.appended_bytes-requires-clause-known
appended_bytes-requires-clause-known c = subst (All (IsEntryId c.args.parts.now)) (sym c.entries.ensures) (c.requires.groups.known c.args.symbol.now)

pub returns : goal.returns
returns c =
    let yes : c.is_appended.result ≡ true = search rules in
    told_appended c.args.parts.now c.args.bindings.now.groups c.args.bindings.now.homes c.requires.groups c.requires.homes c.args.symbol.now c.in-Some.home (sym c.in-Some.is ∙ c.home.ensures)
    c.entries.result.now c.appended_bytes.result (sym c.is_appended.ensures ∙ yes) c.entries.ensures c.appended_bytes.ensures
