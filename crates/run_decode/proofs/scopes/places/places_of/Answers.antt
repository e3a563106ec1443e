use Rattle.std.proofs.Common.{List, flat_map, map, sym, ap, ◌∙◌, subst}
use Rattle.module_arena.specs.Lists.{function_blocks}
use Rattle.module_arena.specs.declared.entry.Parameter.{Parameter}
use Rattle.run_initial.specs.Constants.Sound.{names_of}
use Rattle.run_rules.specs.Scope.{results_of}
use Rattle.run_decode.specs.Scopes.Scopes.{block_of, bounds_from, typed_parameter}
use Rattle.run_decode.specs.Scopes.Places.{AreAdded}
use Rattle.run_decode.proofs.OnScopes.Added.{bounds_added}
use Rattle.run_decode.proofs.OnScopes.Viewed.{typed_is}
use Rattle.run_decode.proofs.scopes.places.places_of.Goals as goal

pub returns : goal.returns
returns c =
    let a = c.args.arena.now in
    let f = c.args.function.now in
    let xs = map (typed_parameter a) f.parameters in
    let ys = flat_map (results_of (names_of a)) (map (block_of a f) (function_blocks f)) in
    let front = subst (λ (ps : List Parameter). AreAdded 0 (map (typed_parameter a) ps) c.new-places.result.items c.place_parameters.new.places.items c.in_ok-parameters_end.parameters_end) c.as_slice.ensures c.in_ok-parameters_end.ensures in
    bounds_added xs ys c.new-places.result.items c.place_parameters.new.places.items c.place_body.new.places.items c.push.new.self.items c.in_ok-parameters_end.parameters_end c.in_ok-end.end
    c.new-places.ensures.items front c.in_ok-end.ensures c.in_ok-push.ensures.items
    ∙ ap (bounds_from 0) (sym (typed_is a f))
