use Rattle.std.proofs.Common.{ap, ◌∙◌}
use Rattle.type_table.specs.Types.{shape}
use Rattle.linkage_rules.proofs.Seen.{known_global, get_within}
use Rattle.linkage_rules.proofs.ValidParts.{appends_variable, shapes_alike, element_shape}
use Rattle.linkage_rules.proofs.clash.are_alike.Goals as goal

pub element_of-a-requires : goal.element_of-a-requires
element_of-a-requires c =
    let a = c.arena_of-first.result.now in
    (appends_variable c.args.parts.now c.args.one a c.arena_of-first.ensures.arena c.arena_of-first.ensures.valid (known_global c.args.parts.now c.args.one a c.requires.one c.arena_of-first.ensures.arena) c.requires.one_appends).1

pub element_of-b-requires : goal.element_of-b-requires
element_of-b-requires c =
    let a = c.arena_of-second.result.now in
    (appends_variable c.args.parts.now c.args.other a c.arena_of-second.ensures.arena c.arena_of-second.ensures.valid (known_global c.args.parts.now c.args.other a c.requires.other c.arena_of-second.ensures.arena) c.requires.other_appends).1

pub returns : goal.returns
returns c =
    let parts = c.args.parts.now in
    let a = c.arena_of-first.result.now in
    let b = c.arena_of-second.result.now in
    let one = appends_variable parts c.args.one a c.arena_of-first.ensures.arena c.arena_of-first.ensures.valid (known_global parts c.args.one a c.requires.one c.arena_of-first.ensures.arena) c.requires.one_appends in
    let other = appends_variable parts c.args.other b c.arena_of-second.ensures.arena c.arena_of-second.ensures.valid (known_global parts c.args.other b c.requires.other c.arena_of-second.ensures.arena) c.requires.other_appends in
    let v = get_within a.variables c.args.one.number one.1 in
    let w = get_within b.variables c.args.other.number other.1 in
    let e = c.element_of-a.ensures.element v.0 v.1 in
    let f = c.element_of-b.ensures.element w.0 w.1 in
    shapes_alike c.shape_eq.result _ _ _ _ c.shape_eq.ensures
    (ap (λ t. shape t c.element_of-a.result) c.types.ensures ∙ element_shape parts c.args.one a c.arena_of-first.ensures.arena v.0 c.element_of-a.result one.0 v.1 e)
    (ap (λ t. shape t c.element_of-b.result) c.types-2.ensures ∙ element_shape parts c.args.other b c.arena_of-second.ensures.arena w.0 c.element_of-b.result other.0 w.1 f)
