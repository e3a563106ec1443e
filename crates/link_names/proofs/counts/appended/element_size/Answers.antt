use Rattle.std.proofs.Common.{sym, ap, ◌∙◌}
use Rattle.std.specs.Prelude.{option_and_then}
use Rattle.type_table.specs.Layout.{layout}
use Rattle.type_table.specs.Types.{shape}
use Rattle.linkage_rules.proofs.Seen.{get_within, known_global}
use Rattle.linkage_rules.proofs.ValidParts.{appends_variable}
use Rattle.link_names.proofs.OnCounts.Elements.{element_bytes, element_lies}
use Rattle.link_names.proofs.counts.appended.element_size.Goals as goal

pub element_of-requires : goal.element_of-requires
element_of-requires c =
    let parts = c.args.parts.now in
    let a = c.arena_of-arena.result.now in
    (appends_variable parts c.args.id a c.arena_of-arena.ensures.arena c.arena_of-arena.ensures.valid (known_global parts c.args.id a c.requires.entry c.arena_of-arena.ensures.arena) c.requires.appended).1

pub returns-in-Some : goal.returns-in-Some
returns-in-Some c =
    let parts = c.args.parts.now in
    let a = c.arena_of-arena.result.now in
    let there = c.arena_of-arena.ensures.arena in
    let variable = appends_variable parts c.args.id a there c.arena_of-arena.ensures.valid (known_global parts c.args.id a c.requires.entry there) c.requires.appended in
    let v = get_within a.variables c.args.id.number variable.1 in
    element_bytes parts c.args.id a there v.0 c.element_of.result variable.0 v.1 (c.element_of.ensures.element v.0 v.1) c.in-Some.layout
    (sym (c.in-Some.ensures ∙ ap (λ t. option_and_then layout (shape t c.element_of.result)) c.types.ensures))

pub returns-in-None : goal.returns-in-None
returns-in-None c =
    let parts = c.args.parts.now in
    let a = c.arena_of-arena.result.now in
    let there = c.arena_of-arena.ensures.arena in
    let variable = appends_variable parts c.args.id a there c.arena_of-arena.ensures.valid (known_global parts c.args.id a c.requires.entry there) c.requires.appended in
    let v = get_within a.variables c.args.id.number variable.1 in
    absurd
    (element_lies parts c.args.id a there v.0 c.element_of.result variable.0 v.1 (c.element_of.ensures.element v.0 v.1) c.arena_of-arena.ensures.valid c.requires.definition
    (sym (c.in-None.ensures ∙ ap (λ t. option_and_then layout (shape t c.element_of.result)) c.types.ensures)))
