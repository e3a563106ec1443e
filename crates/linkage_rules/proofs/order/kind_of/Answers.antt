use Rattle.std.proofs.Common.{map, sym, ap, ◌∙◌, subst, All}
use Rattle.std.specs.Option.{option_map}
use Rattle.indexmap.specs.IndexMap.{keys}
use Rattle.linkage_rules.specs.Grouped.{IsHome}
use Rattle.linkage_rules.specs.Ids.{IsEntryId, modules, seen}
use Rattle.linkage_rules.proofs.Standing.{homes_length, home_known, home_at, kind_is}
use Rattle.linkage_rules.proofs.order.kind_of.Goals as goal

pub home_of-requires : goal.home_of-requires
home_of-requires c = homes_length c.args.parts.now (keys c.args.groups.now) c.args.homes.now c.requires.homes

pub is_alias-is_alias-requires : goal.is_alias-is_alias-requires
is_alias-is_alias-requires c = subst (IsHome c.args.parts.now) (sym c.home_of.ensures) (home_known c.args.parts.now c.args.groups.now.entries c.args.homes.now c.requires.homes c.args.symbol.now)

pub begins_as_variable-is_variable-requires : goal.begins_as_variable-is_variable-requires
begins_as_variable-is_variable-requires c = subst (All (IsEntryId c.args.parts.now)) (sym c.group.ensures) (c.requires.groups.known c.args.symbol.now)

pub returns : goal.returns
returns c =
    let parts = c.args.parts.now in
    let s = c.args.symbol.now in
    c.kind_from.ensures
    ∙ kind_is parts s _ _ _ _ c.is_alias-is_alias.ensures (ap (option_map (seen (modules parts))) c.home_of.ensures ∙ home_at parts c.args.groups.now.entries c.args.homes.now c.requires.homes c.requires.groups s)
    c.begins_as_variable-is_variable.ensures (ap (map (seen (modules parts))) c.group.ensures ∙ c.requires.groups.groups s)
