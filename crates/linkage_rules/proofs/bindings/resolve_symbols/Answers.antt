use Rattle.std.proofs.Common.{Bool, sym, ap, ◌∙◌, subst, filter, All}
use Rattle.linkage_rules.specs.declared.entry.EntryId.{EntryId}
use Rattle.linkage_rules.specs.Globals.{is_alias}
use Rattle.linkage_rules.specs.Grouped.{IsFiled, key_in}
use Rattle.linkage_rules.specs.Ids.{IsEntryId, modules, seen}
use Rattle.linkage_rules.proofs.Standing.{are_groups, are_alias_groups, homes_count}
use Rattle.linkage_rules.proofs.Steps.{all_kept}
use Rattle.linkage_rules.proofs.bindings.resolve_symbols.Goals as goal

pub homes-requires : goal.homes-requires
homes-requires c =
    let parts = c.args.parts.now in
    are_groups parts c.in_ok-ids.ids.items c.in_ok-groups.groups.entries c.in_ok-ids.ensures.ids
    (subst (λ ids. IsFiled (key_in (modules parts)) ids c.in_ok-groups.groups.entries) c.deref.ensures.value c.in_ok-groups.ensures)

pub aliases_among-requires : goal.aliases_among-requires
aliases_among-requires c = subst (All (IsEntryId c.args.parts.now)) (sym c.deref-2.ensures.value) c.in_ok-ids.ensures.ids.known

pub filed-requires-2 : goal.filed-requires-2
filed-requires-2 c =
    let parts = c.args.parts.now in
    let p : EntryId → Bool = λ id. is_alias (seen (modules parts) id).global in
    subst (All (IsEntryId parts)) (sym (c.deref-3.ensures.value ∙ c.in_ok-found.ensures ∙ ap (filter p) c.deref-2.ensures.value))
    (all_kept (IsEntryId parts) p c.in_ok-ids.ids.items c.in_ok-ids.ensures.ids.known)

pub ordered-requires-clause-groups : goal.ordered-requires-clause-groups
ordered-requires-clause-groups c =
    let parts = c.args.parts.now in
    are_groups parts c.in_ok-ids.ids.items c.in_ok-groups.groups.entries c.in_ok-ids.ensures.ids
    (subst (λ ids. IsFiled (key_in (modules parts)) ids c.in_ok-groups.groups.entries) c.deref.ensures.value c.in_ok-groups.ensures)

pub ordered-requires-clause-aliases : goal.ordered-requires-clause-aliases
ordered-requires-clause-aliases c =
    let parts = c.args.parts.now in
    let p : EntryId → Bool = λ id. is_alias (seen (modules parts) id).global in
    are_alias_groups parts c.in_ok-ids.ids.items c.in_ok-found.found.items c.in_ok-aliases.aliases.entries c.in_ok-ids.ensures.ids
    (c.in_ok-found.ensures ∙ ap (filter p) c.deref-2.ensures.value)
    (subst (λ ids. IsFiled (key_in (modules parts)) ids c.in_ok-aliases.aliases.entries) c.deref-3.ensures.value c.in_ok-aliases.ensures)

pub refuse_conflict-requires-clause-groups : goal.refuse_conflict-requires-clause-groups
refuse_conflict-requires-clause-groups c =
    let parts = c.args.parts.now in
    are_groups parts c.in_ok-ids.ids.items c.in_ok-groups.groups.entries c.in_ok-ids.ensures.ids
    (subst (λ ids. IsFiled (key_in (modules parts)) ids c.in_ok-groups.groups.entries) c.deref.ensures.value c.in_ok-groups.ensures)

pub invariant_of-result : goal.invariant_of-result
invariant_of-result c = homes_count c.args.parts.now c.in_ok-groups.groups.entries c.in_ok-homes.homes.items c.in_ok-homes.ensures

pub returns-clause-bindings : goal.returns-clause-bindings
returns-clause-bindings c =
    let parts = c.args.parts.now in record {
      groups =
          are_groups parts c.in_ok-ids.ids.items c.in_ok-groups.groups.entries c.in_ok-ids.ensures.ids
          (subst (λ ids. IsFiled (key_in (modules parts)) ids c.in_ok-groups.groups.entries) c.deref.ensures.value c.in_ok-groups.ensures);
      homes = c.in_ok-homes.ensures;
    }
