use Rattle.std.proofs.Common.{ℕ, ◌+◌, [], ◌∷◌, map, refl, ap, ◌∙◌, arith}
use Rattle.module_arena.specs.declared.entry.Parameter.{Parameter}
use Rattle.run_decode.specs.Scopes.Places.{end_from}
use Rattle.run_decode.specs.Scopes.Scopes.{typed_parameter}
use Rattle.run_acts.proofs.OnProgram.Counted.{counted_all, counted_more}
use Rattle.run_acts.proofs.program.leaves.parameter_leaves.Goals as goal

pub parameters-preserved : goal.parameters-preserved
parameters-preserved c =
    let a = c.args.arena.now in
    let ps = c.args.parameters.now in
    counted_more (map (typed_parameter a)) (λ (p : Parameter). typed_parameter a p ∷ []) (λ x xs. refl) ps ps refl c.parameters.parameter-index c.parameter-item.result c.parameters.end c.in_ok-end.end
    (end_from 0 (map (typed_parameter a) ps)) c.parameters-test.true c.parameter-item.is c.parameters.invariant
    (c.in_ok-end.ensures ∙ ap (λ (n : ℕ). c.parameters.end + n) c.leaves_of.ensures)

pub returns : goal.returns
returns c =
    let a = c.args.arena.now in
    let ps = c.args.parameters.now in
    counted_all (map (typed_parameter a)) (λ (p : Parameter). typed_parameter a p ∷ []) (λ x xs. refl) refl ps c.parameters.parameter-index c.parameters.end (end_from 0 (map (typed_parameter a) ps)) (omega arith) c.parameters.invariant
