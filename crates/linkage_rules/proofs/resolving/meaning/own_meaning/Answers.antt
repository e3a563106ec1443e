use Rattle.std.proofs.Common.{Some, slice_get, sym, ap, ◌∙◌, subst, All}
use Rattle.std.specs.Option.{option_map}
use Rattle.linkage_rules.specs.Bind as bind
use Rattle.linkage_rules.specs.Grouped.{IsHome}
use Rattle.linkage_rules.specs.Ids.{IsEntryId, modules, entry_in}
use Rattle.linkage_rules.proofs.Standing.{home_known}
use Rattle.linkage_rules.proofs.OnResolving.AtHome.{not_defined, appended, defined, definition_told}
use Rattle.linkage_rules.proofs.resolving.meaning.own_meaning.Goals as goal

pub can_be_absent-is_absent-requires-clause-known : goal.can_be_absent-is_absent-requires-clause-known
can_be_absent-is_absent-requires-clause-known c = subst (All (IsEntryId c.args.parts.now)) (sym c.entries-ids.ensures) (c.requires.bindings.groups.known c.args.symbol)

pub undefined-requires-clause-known : goal.undefined-requires-clause-known
undefined-requires-clause-known c = subst (All (IsEntryId c.args.parts.now)) (sym c.entries-ids.ensures) (c.requires.bindings.groups.known c.args.symbol)

pub returns-in_default : goal.returns-in_default
returns-in_default c =
    c.undefined.ensures
    ∙ ap Some (sym (not_defined c.args.parts.now c.args.bindings.now.groups c.args.bindings.now.homes c.requires.bindings.groups c.requires.bindings.homes c.args.symbol (sym c.in_default.is ∙ c.home.ensures)))

pub appends-requires : goal.appends-requires
appends-requires c =
    (subst (IsHome c.args.parts.now) (sym c.home.ensures ∙ c.in-Some.is) (home_known c.args.parts.now c.args.bindings.now.groups c.args.bindings.now.homes c.requires.bindings.homes c.args.symbol)).0

pub returns-then-appends : goal.returns-then-appends
returns-then-appends c =
    ap Some
    (sym (appended c.args.parts.now c.args.bindings.now.groups c.args.bindings.now.homes c.requires.bindings.groups c.requires.bindings.homes c.args.symbol c.in-Some.id (sym c.in-Some.is ∙ c.home.ensures) (sym c.appends.ensures ∙ c.if-appends.true)))

pub returns-else-appends : goal.returns-else-appends
returns-else-appends c =
    let id = c.in-Some.id in
    let known = (subst (IsHome c.args.parts.now) (sym c.home.ensures ∙ c.in-Some.is) (home_known c.args.parts.now c.args.bindings.now.groups c.args.bindings.now.homes c.requires.bindings.homes c.args.symbol)).0 in
    ap (λ g. option_map bind.Definition (entry_in id.part (slice_get (modules c.args.parts.now) id.part) g)) c.global.ensures
    ∙ definition_told c.args.parts.now c.args.symbol id known
    ∙ ap Some
    (sym (defined c.args.parts.now c.args.bindings.now.groups c.args.bindings.now.homes c.requires.bindings.groups c.requires.bindings.homes c.args.symbol id (sym c.in-Some.is ∙ c.home.ensures) (sym c.appends.ensures ∙ c.if-appends.false)))
