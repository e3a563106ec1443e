use Rattle.std.proofs.Common.{◌≡◌, Some, slice_get, sym, subst, ap, ◌∙◌}
use Rattle.linkage_rules.specs.declared.entry.EntryHead.{EntryHead}
use Rattle.linkage_rules.specs.Globals.{initialiser_of, linkage_of}
use Rattle.linkage_rules.specs.Ids.{modules, seen}
use Rattle.linkage_rules.specs.Linkages.{is_appending}
use Rattle.module_linker.specs.Stages.Definitions.{entries_defined}
use Rattle.module_linker.proofs.OnFilling.Initialising.{appended_is, not_appending, plain_is}
use Rattle.module_linker.proofs.filling.initialisers.initialiser_of.Goals as goal

pub returns-in_ok-joined-in-Appending-clause-is : goal.returns-in_ok-joined-in-Appending-clause-is
returns-in_ok-joined-in-Appending-clause-is c =
    let parts = c.args.parts.now in
    let e = seen (modules parts) c.args.home in
    appended_is (modules parts) c.joined_initialiser.new.into.arena e (entries_defined parts c.args.ids.now) (initialiser_of e.global) c.in_ok-joined-in-Appending.joined
    (ap is_appending (sym (ap (λ (h : EntryHead). h.linkage) c.head_of.ensures) ∙ c.in-Appending.is)) c.in_ok-joined-in-Appending.ensures.is

pub returns-in_default-clause-is : goal.returns-in_default-clause-is
returns-in_default-clause-is c =
    let parts = c.args.parts.now in
    let a = c.arena_of-arena.result.now in
    let v = c.variable-variable.result.now in
    let at = subst (λ n. slice_get a.variables n ≡ Some v) c.new.ensures c.variable-variable.ensures in
    plain_is parts c.args.into.now.arena c.args.copiers.now c.requires.copied c.requires.new_ids c.args.home a c.copier_of.result.now c.arena_of-arena.ensures.arena c.copier_of.ensures c.requires.variable v at
    c.variable_count-good.ensures.good (entries_defined parts c.args.ids.now) c.copied_initialiser.result
    (not_appending (linkage_of (seen (modules parts) c.args.home).global) (λ e. c.in_default.not-Appending (ap (λ (h : EntryHead). h.linkage) c.head_of.ensures ∙ e))) c.copied_initialiser.ensures
