use Rattle.std.proofs.Common.{◌≡◌, ◌++◌, [], ◌∷◌, Some, sym, ap₂, ◌∙◌, subst}
use Rattle.std.specs.Prelude.{slice_get}
use Rattle.module_arena.specs.Lists.{Lists}
use Rattle.linkage_rules.proofs.Steps.{map_step}
use Rattle.run_names.specs.Standings.{function_stands}
use Rattle.run_names.proofs.standing.standings.Goals as goal

pub functions-preserved : goal.functions-preserved
functions-preserved c =
    let a = c.args.program.now in
    let f = c.function.result.now in
    let there = subst (λ (x : Lists). slice_get x.functions c.new.result ≡ Some f) c.arena-arena.ensures.arena c.function.ensures in
    let at = subst (λ i. slice_get a.functions i ≡ Some f) c.new.ensures there in
    c.in_ok-push.ensures.items ∙ ap₂ (λ l x. l ++ x ∷ []) c.functions.invariant c.standing_of.ensures ∙ sym (map_step function_stands a.functions c.functions.number f at)
