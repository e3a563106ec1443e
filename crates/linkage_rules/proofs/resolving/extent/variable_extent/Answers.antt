use Rattle.std.proofs.Common.{◌≡◌, ◌<◌, Some, length, slice_get, sym, ap, ◌∙◌, subst}
use Rattle.std.specs.Prelude.{option_and_then}
use Rattle.type_table.specs.Layout.{layout}
use Rattle.type_table.specs.Types.{IsGood, shape}
use Rattle.linkage_rules.proofs.ValidParts.{variable_lies}
use Rattle.linkage_rules.proofs.OnResolving.VariableExtents.{variable_extent, type_below, array_lengths}
use Rattle.linkage_rules.proofs.resolving.extent.variable_extent.Goals as goal

pub returns-in_default : goal.returns-in_default
returns-in_default c =
    let a = c.arena_of-arena.result.now in
    let v = c.variable-variable.result.now in
    let at = subst (λ n. slice_get a.variables n ≡ Some v) c.new.ensures c.variable-variable.ensures in
    absurd
    (variable_lies c.args.parts.now c.args.id a c.arena_of-arena.ensures.arena c.arena_of-arena.ensures.valid v c.requires.variable at c.requires.definition
    (sym (sym c.in_default.is ∙ c.layout.ensures ∙ ap (λ t. option_and_then layout (shape t v.ty)) c.types-types.ensures)))

pub get-requires : goal.get-requires
get-requires c =
    let a = c.arena_of-arena.result.now in
    let v = c.variable-variable.result.now in
    let at = subst (λ n. slice_get a.variables n ≡ Some v) c.new.ensures c.variable-variable.ensures in
    subst (λ t. v.ty < length t.types) (sym c.types-types.ensures) (type_below a c.variable_count-count.ensures.good c.args.id.number v at)

pub returns : goal.returns
returns c =
    let a = c.arena_of-arena.result.now in
    let v = c.variable-variable.result.now in
    let at = subst (λ n. slice_get a.variables n ≡ Some v) c.new.ensures c.variable-variable.ensures in
    let table = c.types-types.ensures in
    variable_extent c.args.parts.now c.args.id a c.arena_of-arena.ensures.arena v c.in-Some.whole c.in-Some-layout.element c.element_of.result c.array_length.result c.requires.variable at
    (sym (sym c.in-Some.is ∙ c.layout.ensures ∙ ap (λ t. option_and_then layout (shape t v.ty)) table))
    (c.element_of.ensures.element v at)
    (sym (sym c.in-Some-layout.is ∙ c.layout-2.ensures ∙ ap (λ t. option_and_then layout (shape t c.element_of.result)) table))
    (c.array_length.ensures
    ∙ array_lengths a.table (subst IsGood table c.type_count-type_count.ensures.good) v.ty (type_below a c.variable_count-count.ensures.good c.args.id.number v at) c.get.result.now
    (subst (λ t. slice_get t.types v.ty ≡ Some c.get.result.now) table c.get.ensures))
