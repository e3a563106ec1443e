use Rattle.std.proofs.Common.{◌≡◌, [], Some, slice_get, sym, subst, ap, ◌∙◌}
use Rattle.linkage_rules.specs.declared.entry.EntryHead.{EntryHead}
use Rattle.linkage_rules.specs.Globals.{stated}
use Rattle.linkage_rules.specs.Ids.{modules, seen}
use Rattle.module_linker.specs.Entries.Definitions.{entries_defined}
use Rattle.module_linker.proofs.OnEntries.JoinedTypes.{appended_aligned, common_aligned, own_aligned}
use Rattle.module_linker.proofs.OnEntries.Written.{variable_here}
use Rattle.module_linker.proofs.entries.types.joined_alignment.Goals as goal

pub returns-in-Appending : goal.returns-in-Appending
returns-in-Appending c =
    let parts = c.args.parts.now in
    c.greatest_stated.ensures ∙ appended_aligned (modules parts) (seen (modules parts) c.args.home) (entries_defined parts c.args.ids.now) (ap (λ (h : EntryHead). h.linkage) (sym c.head_of.ensures) ∙ c.in-Appending.is)

pub returns-in-Common : goal.returns-in-Common
returns-in-Common c =
    let parts = c.args.parts.now in
    let v = c.variable-variable.result.now in
    let a = c.arena_of-arena.result.now in
    let at = subst (λ n. slice_get a.variables n ≡ Some v) c.new.ensures c.variable-variable.ensures in
    let here = variable_here parts c.args.home a c.arena_of-arena.ensures.arena [] v c.requires.variable at in
    c.common_alignment.ensures
    ∙ common_aligned (modules parts) (seen (modules parts) c.args.home) (entries_defined parts c.args.ids.now) v.alignment (sym (ap stated here)) (ap (λ (h : EntryHead). h.linkage) (sym c.head_of.ensures) ∙ c.in-Common.is)

pub returns-in_default : goal.returns-in_default
returns-in_default c =
    let parts = c.args.parts.now in
    let v = c.variable-variable.result.now in
    let a = c.arena_of-arena.result.now in
    let at = subst (λ n. slice_get a.variables n ≡ Some v) c.new.ensures c.variable-variable.ensures in
    let here = variable_here parts c.args.home a c.arena_of-arena.ensures.arena [] v c.requires.variable at in
    let link = ap (λ (h : EntryHead). h.linkage) c.head_of.ensures in
    sym (ap stated here)
    ∙ own_aligned (modules parts) (seen (modules parts) c.args.home) (entries_defined parts c.args.ids.now) (λ e. c.in_default.not-Appending (link ∙ e)) (λ e. c.in_default.not-Common (link ∙ e))
