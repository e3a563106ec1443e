use Rattle.std.proofs.Common.{◌≡◌, ◌<◌, [], Some, slice_get, sym, subst, ap, ◌∙◌}
use Rattle.type_table.specs.declared.ir_type.IrType.TheVariants.{Array}
use Rattle.type_table.specs.Limits.{IsWithinLimits}
use Rattle.type_table.specs.Shape.{shape}
use Rattle.type_table.specs.Types.{names, trees, structs, tree_of, IsKnown}
use Rattle.module_arena.specs.Known.{KnowsVariable}
use Rattle.linkage_rules.specs.declared.entry.EntryHead.{EntryHead}
use Rattle.linkage_rules.specs.Globals.{element_of, type_of}
use Rattle.linkage_rules.proofs.Seen.{get_within, known_part}
use Rattle.linkage_rules.proofs.Steps.{all_get}
use Rattle.item_build.specs.Types.Stands.{IsType}
use Rattle.module_linker.specs.Entries.Definitions.{joined_of}
use Rattle.module_linker.proofs.OnEntries.JoinedTypes.{own_type, appended_known, appended_is, appended_fits}
use Rattle.module_linker.proofs.OnEntries.Written.{variable_here, variable_within}
use Rattle.module_linker.proofs.entries.types.joined_type.Goals as goal

pub copier_of-copier-requires : goal.copier_of-copier-requires
copier_of-copier-requires c = subst (λ n. c.args.home.part < n) (sym c.requires.types.count) (known_part c.args.parts.now c.args.home c.requires.entry)

pub element_of-requires : goal.element_of-requires
element_of-requires c = variable_within c.args.parts.now c.args.home c.arena_of-arena.result.now c.arena_of-arena.ensures.arena c.requires.entry c.requires.variable

pub keep_type-requires-clause-known : goal.keep_type-requires-clause-known
keep_type-requires-clause-known c =
    let parts = c.args.parts.now in
    let a = c.arena_of-arena.result.now in
    let b = c.args.into.now.arena in
    let t = c.copier_of-copier.result.now in
    let v = get_within a.variables c.args.home.number (variable_within parts c.args.home a c.arena_of-arena.ensures.arena c.requires.entry c.requires.variable) in
    let here = variable_here parts c.args.home a c.arena_of-arena.ensures.arena [] v.0 c.requires.variable v.1 in
    let element = c.element_of.ensures in
    subst (λ i. IsKnown b.table (Array c.joined_length-length.result i)) (sym c.new_type-element.ensures)
    (appended_known parts c.args.home c.args.ids.now a b t c.requires.entry (c.requires.types.types c.args.home.part a t c.arena_of-arena.ensures.arena c.copier_of-copier.ensures) c.element_of.result c.joined_length-length.result
    element.known (element.element v.0 v.1 ∙ ap element_of (sym (ap type_of here))) (ap (λ (h : EntryHead). h.linkage) (sym c.head_of.ensures) ∙ c.in-Appending.is) c.joined_length-length.ensures c.requires.good)

pub keep_type-requires-clause-fits : goal.keep_type-requires-clause-fits
keep_type-requires-clause-fits c =
    let parts = c.args.parts.now in
    let a = c.arena_of-arena.result.now in
    let b = c.args.into.now.arena in
    let t = c.copier_of-copier.result.now in
    let v = get_within a.variables c.args.home.number (variable_within parts c.args.home a c.arena_of-arena.ensures.arena c.requires.entry c.requires.variable) in
    let here = variable_here parts c.args.home a c.arena_of-arena.ensures.arena [] v.0 c.requires.variable v.1 in
    let element = c.element_of.ensures in
    subst (λ i. IsWithinLimits (shape (structs b.table) (tree_of (names b.table) (trees b.table) (Array c.joined_length-length.result i)))) (sym c.new_type-element.ensures)
    (appended_fits parts c.args.home c.args.ids.now a b t c.requires.entry (c.requires.types.types c.args.home.part a t c.arena_of-arena.ensures.arena c.copier_of-copier.ensures) c.element_of.result c.joined_length-length.result
    element.known (element.element v.0 v.1 ∙ ap element_of (sym (ap type_of here))) (ap (λ (h : EntryHead). h.linkage) (sym c.head_of.ensures) ∙ c.in-Appending.is) c.joined_length-length.ensures c.requires.good)

pub returns-in_ok-id-in-Appending-clause-is : goal.returns-in_ok-id-in-Appending-clause-is
returns-in_ok-id-in-Appending-clause-is c =
    let parts = c.args.parts.now in
    let a = c.arena_of-arena.result.now in
    let b = c.args.into.now.arena in
    let t = c.copier_of-copier.result.now in
    let v = get_within a.variables c.args.home.number (variable_within parts c.args.home a c.arena_of-arena.ensures.arena c.requires.entry c.requires.variable) in
    let here = variable_here parts c.args.home a c.arena_of-arena.ensures.arena [] v.0 c.requires.variable v.1 in
    let element = c.element_of.ensures in
    subst (IsType c.keep_type.new.self.arena c.in_ok-id-in-Appending.id)
    (ap (λ i. tree_of (names b.table) (trees b.table) (Array c.joined_length-length.result i)) c.new_type-element.ensures
    ∙ appended_is parts c.args.home c.args.ids.now a b t c.requires.entry (c.requires.types.types c.args.home.part a t c.arena_of-arena.ensures.arena c.copier_of-copier.ensures) c.element_of.result c.joined_length-length.result
    element.known (element.element v.0 v.1 ∙ ap element_of (sym (ap type_of here))) (ap (λ (h : EntryHead). h.linkage) (sym c.head_of.ensures) ∙ c.in-Appending.is) c.joined_length-length.ensures c.requires.good)
    c.in_ok-id-in-Appending.ensures.is

pub returns-in_default-clause-is : goal.returns-in_default-clause-is
returns-in_default-clause-is c =
    let parts = c.args.parts.now in
    let a = c.arena_of-arena.result.now in
    let b = c.args.into.now.arena in
    let t = c.copier_of-copier.result.now in
    let v = c.variable-variable.result.now in
    let at = subst (λ n. slice_get a.variables n ≡ Some v) c.new.ensures c.variable-variable.ensures in
    let here = variable_here parts c.args.home a c.arena_of-arena.ensures.arena [] v c.requires.variable at in
    subst (λ i. IsType b i (joined_of parts c.args.home c.args.ids.now)) (sym c.new_type.ensures)
    (own_type parts c.args.home c.args.ids.now a b t c.requires.entry (c.requires.types.types c.args.home.part a t c.arena_of-arena.ensures.arena c.copier_of-copier.ensures) v.ty
    (all_get (KnowsVariable _ _) a.variables c.args.home.number v c.variable_count-good.ensures.good.variables at).ty_known (ap type_of here) (λ e. c.in_default.not-Appending (ap (λ (h : EntryHead). h.linkage) c.head_of.ensures ∙ e)))
