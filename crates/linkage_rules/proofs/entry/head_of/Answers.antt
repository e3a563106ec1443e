use Rattle.std.proofs.Common.{◌≡◌, Some, slice_get, subst, ◌∙◌}
use Rattle.linkage_rules.proofs.Seen.{variable_head_seen, function_head_seen, alias_head_seen}
use Rattle.linkage_rules.proofs.entry.head_of.Goals as goal

pub returns-in-Variable : goal.returns-in-Variable
returns-in-Variable c =
    let a = c.arena_of-arena.result.now in
    let at = subst (λ n. slice_get a.variables n ≡ Some c.variable.result.now) c.new.ensures c.variable.ensures in
    c.variable_head.ensures ∙ variable_head_seen c.args.parts.now c.args.id a c.arena_of-arena.ensures.arena c.variable.result.now c.in-Variable.is at

pub returns-in-Function : goal.returns-in-Function
returns-in-Function c =
    let a = c.arena_of-arena.result.now in
    let at = subst (λ n. slice_get a.functions n ≡ Some c.function.result.now) c.new-in-Function.ensures c.function.ensures in
    c.function_head.ensures ∙ function_head_seen c.args.parts.now c.args.id a c.arena_of-arena.ensures.arena c.function.result.now c.in-Function.is at

pub returns-in-Alias : goal.returns-in-Alias
returns-in-Alias c =
    let a = c.arena_of-arena.result.now in
    let at = subst (λ n. slice_get a.aliases n ≡ Some c.alias.result.now) c.new-in-Alias.ensures c.alias.ensures in
    c.alias_head.ensures ∙ alias_head_seen c.args.parts.now c.args.id a c.arena_of-arena.ensures.arena c.alias.result.now c.in-Alias.is at
