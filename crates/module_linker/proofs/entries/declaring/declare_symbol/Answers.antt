use Rattle.std.proofs.Common.{◌≡◌, ◌<◌, All, IfOk, Some, length, slice_get, sym, subst, ap, ◌∙◌}
use Rattle.linkage_rules.specs.Grouped.{IsHome}
use Rattle.linkage_rules.specs.Ids.{IsEntryId}
use Rattle.linkage_rules.proofs.Standing.{home_known}
use Rattle.linkage_rules.proofs.Steps.{all_get}
use Rattle.module_linker.specs.Entries.Definitions.{definition_of, declaration_of}
use Rattle.module_linker.specs.Entries.Room.{HasRoom}
use Rattle.module_linker.specs.Entries.Step.{IsDeclared}
use Rattle.module_linker.proofs.OnEntries.Homes.{defined_is, has_entry, declared_is, no_alias}
use Rattle.module_linker.proofs.entries.declaring.declare_symbol.Goals as goal

pub declare_definition-requires-clause-entry : goal.declare_definition-requires-clause-entry
declare_definition-requires-clause-entry c =
    let r = c.args.bindings.now in
    (subst (IsHome c.args.parts.now) (sym c.in-Some.ensures) (home_known c.args.parts.now r.groups r.homes c.requires.resolved.bindings.homes c.args.symbol.now)).0

pub declare_definition-requires-clause-known : goal.declare_definition-requires-clause-known
declare_definition-requires-clause-known c = subst (All (IsEntryId c.args.parts.now)) (sym c.entries-ids.ensures) (c.requires.resolved.bindings.groups.known c.args.symbol.now)

pub declare_definition-requires-clause-room : goal.declare_definition-requires-clause-room
declare_definition-requires-clause-room c =
    let parts = c.args.parts.now in
    subst (HasRoom c.args.into.now.arena)
    (defined_is parts c.args.bindings.now c.requires.resolved c.args.symbol.now c.args.name.now c.in-Some.home (sym c.in-Some.ensures) ∙ ap (λ l. definition_of parts c.in-Some.home l c.args.name.now) (sym c.entries-ids.ensures))
    c.requires.room

pub returns-in-Some : goal.returns-in-Some
returns-in-Some c =
    let parts = c.args.parts.now in
    subst (λ g. IfOk c.declare_definition.result (IsDeclared parts c.args.into.now.arena c.declare_definition.new.into.arena c.args.copiers.now g))
    (sym (defined_is parts c.args.bindings.now c.requires.resolved c.args.symbol.now c.args.name.now c.in-Some.home (sym c.in-Some.ensures) ∙ ap (λ l. definition_of parts c.in-Some.home l c.args.name.now) (sym c.entries-ids.ensures)))
    c.declare_definition.ensures

pub first_of-first-requires : goal.first_of-first-requires
first_of-first-requires c =
    subst (λ l. 0 < length l) (sym c.entries-ids.ensures) (has_entry c.args.parts.now c.args.bindings.now c.requires.resolved c.args.symbol.now c.args.name.now c.requires.can c.requires.symbol)

pub declare_undefined-requires-clause-entry : goal.declare_undefined-requires-clause-entry
declare_undefined-requires-clause-entry c =
    all_get (IsEntryId c.args.parts.now) c.entries-ids.result.now 0 c.first_of-first.result (subst (All (IsEntryId c.args.parts.now)) (sym c.entries-ids.ensures) (c.requires.resolved.bindings.groups.known c.args.symbol.now)) c.first_of-first.ensures

pub declare_undefined-requires-clause-known : goal.declare_undefined-requires-clause-known
declare_undefined-requires-clause-known c = subst (All (IsEntryId c.args.parts.now)) (sym c.entries-ids.ensures) (c.requires.resolved.bindings.groups.known c.args.symbol.now)

pub declare_undefined-requires-clause-plain : goal.declare_undefined-requires-clause-plain
declare_undefined-requires-clause-plain c =
    let at = subst (λ l. slice_get l 0 ≡ Some c.first_of-first.result) c.entries-ids.ensures c.first_of-first.ensures in
    no_alias c.args.parts.now c.args.bindings.now c.requires.resolved c.args.symbol.now c.args.name.now c.requires.can c.requires.symbol (sym c.in-None.ensures) c.first_of-first.result at

pub declare_undefined-requires-clause-room : goal.declare_undefined-requires-clause-room
declare_undefined-requires-clause-room c =
    let parts = c.args.parts.now in
    let first = c.first_of-first.result in
    let at = subst (λ l. slice_get l 0 ≡ Some first) c.entries-ids.ensures c.first_of-first.ensures in
    let known = all_get (IsEntryId parts) c.entries-ids.result.now 0 first (subst (All (IsEntryId parts)) (sym c.entries-ids.ensures) (c.requires.resolved.bindings.groups.known c.args.symbol.now)) c.first_of-first.ensures in
    subst (HasRoom c.args.into.now.arena)
    (declared_is parts c.args.bindings.now c.requires.resolved c.args.symbol.now c.args.name.now c.requires.can c.requires.symbol (sym c.in-None.ensures) first at known ∙ ap (λ l. declaration_of parts first l c.args.name.now) (sym c.entries-ids.ensures))
    c.requires.room

pub returns-in-None : goal.returns-in-None
returns-in-None c =
    let parts = c.args.parts.now in
    let first = c.first_of-first.result in
    let at = subst (λ l. slice_get l 0 ≡ Some first) c.entries-ids.ensures c.first_of-first.ensures in
    let known = all_get (IsEntryId parts) c.entries-ids.result.now 0 first (subst (All (IsEntryId parts)) (sym c.entries-ids.ensures) (c.requires.resolved.bindings.groups.known c.args.symbol.now)) c.first_of-first.ensures in
    subst (λ g. IfOk c.declare_undefined.result (IsDeclared parts c.args.into.now.arena c.declare_undefined.new.into.arena c.args.copiers.now g))
    (sym (declared_is parts c.args.bindings.now c.requires.resolved c.args.symbol.now c.args.name.now c.requires.can c.requires.symbol (sym c.in-None.ensures) first at known ∙ ap (λ l. declaration_of parts first l c.args.name.now) (sym c.entries-ids.ensures)))
    c.declare_undefined.ensures
