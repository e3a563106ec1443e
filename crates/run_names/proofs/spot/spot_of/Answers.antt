use Rattle.std.proofs.Common.{◌≡◌, ◌<◌, Some, length, sym, ap, ◌∙◌, subst, arith}
use Rattle.std.specs.Prelude.{IsSome, option_and_then, slice_get}
use Rattle.type_table.specs.Layout.{layout}
use Rattle.type_table.specs.Limits.{IsWithin}
use Rattle.type_table.specs.Types.{shape}
use Rattle.module_arena.specs.Known.{KnowsVariable}
use Rattle.module_arena.specs.Lists.{Lists}
use Rattle.linkage_rules.proofs.Steps.{all_get}
use Rattle.run_names.proofs.Bounded.{lies_in_memory, alignment_bounded, size_small, its_alignment, spot_told, rounded_within}
use Rattle.run_names.proofs.spot.spot_of.Goals as goal

pub unwrap-layout-requires : goal.unwrap-layout-requires
unwrap-layout-requires c =
    let a = c.args.program.now in
    let v = c.variable-variable.result.now in
    let at = subst (λ (x : Lists). slice_get x.variables c.args.id ≡ Some v) c.arena-arena.ensures.arena c.variable-variable.ensures in
    let table = c.types-types.ensures ∙ ap (λ (x : Lists). x.table) c.arena-arena.ensures.arena in
    subst IsSome (sym (c.layout.ensures ∙ ap (λ t. option_and_then layout (shape t v.ty)) table)) (lies_in_memory a c.args.id v at c.arena-arena.ensures.valid c.requires.defined)

pub next_multiple_of-requires-clause-nonzero : goal.next_multiple_of-requires-clause-nonzero
next_multiple_of-requires-clause-nonzero c =
    let a = c.args.program.now in
    let v = c.variable-variable.result.now in
    let at = subst (λ (x : Lists). slice_get x.variables c.args.id ≡ Some v) c.arena-arena.ensures.arena c.variable-variable.ensures in
    let table = c.types-types.ensures ∙ ap (λ (x : Lists). x.table) c.arena-arena.ensures.arena in
    let laid : option_and_then layout (shape a.table v.ty) ≡ Some c.unwrap-layout.result = sym (c.layout.ensures ∙ ap (λ t. option_and_then layout (shape t v.ty)) table) ∙ c.unwrap-layout.ensures in
    let stated = c.unwrap_or-align.ensures ∙ its_alignment a c.args.id v at c.unwrap-layout.result laid in
    let low = (alignment_bounded a c.args.id v at c.arena-arena.ensures.valid).0 in
    omega (arith, stated, low, c.from.ensures)

pub returns-clause-spot : goal.returns-clause-spot
returns-clause-spot c =
    let a = c.args.program.now in
    let v = c.variable-variable.result.now in
    let at = subst (λ (x : Lists). slice_get x.variables c.args.id ≡ Some v) c.arena-arena.ensures.arena c.variable-variable.ensures in
    let table = c.types-types.ensures ∙ ap (λ (x : Lists). x.table) c.arena-arena.ensures.arena in
    let laid : option_and_then layout (shape a.table v.ty) ≡ Some c.unwrap-layout.result = sym (c.layout.ensures ∙ ap (λ t. option_and_then layout (shape t v.ty)) table) ∙ c.unwrap-layout.ensures in
    spot_told a c.args.id v at c.unwrap-layout.result laid c.args.next c.unwrap_or-align.result c.next_multiple_of.result c.from.result c.unwrap_or-align.ensures c.next_multiple_of.ensures.value c.from.ensures

pub returns-clause-size : goal.returns-clause-size
returns-clause-size c =
    let a = c.args.program.now in
    let v = c.variable-variable.result.now in
    let at = subst (λ (x : Lists). slice_get x.variables c.args.id ≡ Some v) c.arena-arena.ensures.arena c.variable-variable.ensures in
    let table = c.types-types.ensures ∙ ap (λ (x : Lists). x.table) c.arena-arena.ensures.arena in
    let laid : option_and_then layout (shape a.table v.ty) ≡ Some c.unwrap-layout.result = sym (c.layout.ensures ∙ ap (λ t. option_and_then layout (shape t v.ty)) table) ∙ c.unwrap-layout.ensures in
    let known = (all_get (KnowsVariable (length c.arena-arena.result.now.table.types) (length c.arena-arena.result.now.constants)) c.arena-arena.result.now.variables c.args.id v c.variable_count-count.ensures.good.variables c.variable-variable.ensures).ty_known in
    size_small a c.args.id v at c.unwrap-layout.result laid (subst IsWithin table c.type_count-type_count.ensures.within) (subst (λ (x : Lists). v.ty < length x.table.types) c.arena-arena.ensures.arena known)

pub returns-clause-start : goal.returns-clause-start
returns-clause-start c =
    let a = c.args.program.now in
    let v = c.variable-variable.result.now in
    let at = subst (λ (x : Lists). slice_get x.variables c.args.id ≡ Some v) c.arena-arena.ensures.arena c.variable-variable.ensures in
    let table = c.types-types.ensures ∙ ap (λ (x : Lists). x.table) c.arena-arena.ensures.arena in
    let laid : option_and_then layout (shape a.table v.ty) ≡ Some c.unwrap-layout.result = sym (c.layout.ensures ∙ ap (λ t. option_and_then layout (shape t v.ty)) table) ∙ c.unwrap-layout.ensures in
    let stated = c.unwrap_or-align.ensures ∙ its_alignment a c.args.id v at c.unwrap-layout.result laid in
    let both = alignment_bounded a c.args.id v at c.arena-arena.ensures.valid in
    let low = both.0 in
    let high = both.1 in
    rounded_within c.args.next c.from.result c.next_multiple_of.result c.next_multiple_of.ensures.value (omega (arith, stated, low, c.from.ensures)) (omega (arith, stated, high, c.from.ensures))
