use Rattle.std.proofs.Common.{◌≡◌, Some, slice_get, sym, ap, ◌∙◌, subst}
use Rattle.std.specs.Prelude.{option_and_then}
use Rattle.type_table.specs.Layout.{layout}
use Rattle.type_table.specs.Types.{shape}
use Rattle.linkage_rules.proofs.ValidParts.{variable_size, variable_lies}
use Rattle.linkage_rules.proofs.homes.common_size.Goals as goal

pub returns-in-Some : goal.returns-in-Some
returns-in-Some c =
    let a = c.arena_of-arena.result.now in
    let v = c.variable-variable.result.now in
    let at = subst (λ n. slice_get a.variables n ≡ Some v) c.new.ensures c.variable-variable.ensures in
    variable_size c.args.parts.now c.args.id a c.arena_of-arena.ensures.arena v c.in-Some.layout c.in-Variable.is at
    (sym (c.in-Some.ensures ∙ ap (λ t. option_and_then layout (shape t v.ty)) c.types.ensures))

pub returns-in-None : goal.returns-in-None
returns-in-None c =
    let a = c.arena_of-arena.result.now in
    let v = c.variable-variable.result.now in
    let at = subst (λ n. slice_get a.variables n ≡ Some v) c.new.ensures c.variable-variable.ensures in
    absurd
    (variable_lies c.args.parts.now c.args.id a c.arena_of-arena.ensures.arena c.arena_of-arena.ensures.valid v c.in-Variable.is at c.requires.definition
    (sym (c.in-None.ensures ∙ ap (λ t. option_and_then layout (shape t v.ty)) c.types.ensures)))
