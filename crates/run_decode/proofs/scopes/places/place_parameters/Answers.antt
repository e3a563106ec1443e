use Rattle.std.proofs.Common.{ℕ, ◌+◌, [], ◌∷◌, map, refl, ap, ◌∙◌}
use Rattle.std.proofs.lemmas.List.{map-append}
use Rattle.module_arena.specs.declared.entry.Parameter.{Parameter}
use Rattle.run_decode.specs.Scopes.Scopes.{typed_parameter}
use Rattle.run_decode.proofs.OnScopes.Added.{added_one, added_step}
use Rattle.run_decode.proofs.scopes.places.place_parameters.Goals as goal

pub parameters-preserved : goal.parameters-preserved
parameters-preserved c =
    let a = c.args.arena.now in
    let x = c.parameter-item.result in
    let ends = c.in_ok-next.ensures.end ∙ ap (λ (n : ℕ). c.parameters.next + n) c.leaves_of.ensures in
    added_step (λ (p : Parameter). typed_parameter a p ∷ []) (map (typed_parameter a)) (map-append (typed_parameter a)) (λ p. refl) c.args.parameters.now c.args.parameters.now refl
    c.parameters.parameter-index x x 0 c.parameters.next c.in_ok-next.next c.args.places.now.items c.parameters.places.items c.place.new.places.items
    c.parameters-test.true c.parameter-item.is c.parameters.invariant
    (added_one c.parameters.next (typed_parameter a x ∷ []) (typed_parameter a x) c.parameters.places.items c.place.new.places.items c.in_ok-next.next refl c.in_ok-next.ensures.places ends)
