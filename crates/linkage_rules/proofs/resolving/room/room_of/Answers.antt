use Rattle.std.proofs.Common.{All, sym, ◌∙◌, subst}
use Rattle.linkage_rules.specs.Grouped.{IsHome}
use Rattle.linkage_rules.specs.Ids.{IsEntryId}
use Rattle.linkage_rules.proofs.Standing.{home_known}
use Rattle.linkage_rules.proofs.OnResolving.RoomAtHome.{no_room, room_is}
use Rattle.linkage_rules.proofs.resolving.room.room_of.Goals as goal

pub returns-in_default : goal.returns-in_default
returns-in_default c = no_room c.args.parts.now c.args.bindings.now.groups c.args.bindings.now.homes c.requires.groups c.requires.homes c.args.symbol.now (sym c.in_default.is ∙ c.home.ensures)

pub room_by-requires-clause-home : goal.room_by-requires-clause-home
room_by-requires-clause-home c =
    (subst (IsHome c.args.parts.now) (sym c.home.ensures ∙ c.in-Some.is) (home_known c.args.parts.now c.args.bindings.now.groups c.args.bindings.now.homes c.requires.homes c.args.symbol.now)).0

pub room_by-requires-clause-definition : goal.room_by-requires-clause-definition
room_by-requires-clause-definition c =
    (subst (IsHome c.args.parts.now) (sym c.home.ensures ∙ c.in-Some.is) (home_known c.args.parts.now c.args.bindings.now.groups c.args.bindings.now.homes c.requires.homes c.args.symbol.now)).1

pub room_by-requires-clause-known : goal.room_by-requires-clause-known
room_by-requires-clause-known c = subst (All (IsEntryId c.args.parts.now)) (sym c.entries.ensures) (c.requires.groups.known c.args.symbol.now)

pub returns : goal.returns
returns c =
    room_is c.args.parts.now c.args.bindings.now.groups c.args.bindings.now.homes c.requires.groups c.requires.homes c.args.symbol.now c.in-Some.home c.entries.result.now c.room_by.result (sym c.in-Some.is ∙ c.home.ensures) c.entries.ensures c.room_by.ensures.size
    c.room_by.ensures.alignment
