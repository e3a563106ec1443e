use Rattle.std.proofs.Common.{◌+◌, ◌<◌, get_or, length, ap, ◌∙◌, subst, arith}
use Rattle.std.proofs.lemmas.List.{get_or_read}
use Rattle.run_decode.specs.Scopes.Scopes.{Framed, IsFramed}
use Rattle.run_decode.proofs.OnScopes.Bounded.{many, placed_at}
use Rattle.run_decode.proofs.scopes.scope.FunctionScope.bounds.Goals as goal

pub index-requires : goal.index-requires
index-requires c =
    let s = c.args.self.now in
    let h = subst (λ (x : Framed). IsFramed x.lists x.function x.places) c.self.view_is c.self.invariant in
    omega (arith, many s h, ap (λ (x : Framed). length x.places) c.self.view_is, c.number-place.ensures, c.self.inside.places.ok.0, c.requires)

pub index-requires-2 : goal.index-requires-2
index-requires-2 c =
    let s = c.args.self.now in
    let h = subst (λ (x : Framed). IsFramed x.lists x.function x.places) c.self.view_is c.self.invariant in
    omega (arith, many s h, ap (λ (x : Framed). length x.places) c.self.view_is, c.number-place.ensures, c.self.inside.places.ok.0, c.requires)

pub returns : goal.returns
returns c =
    let s = c.args.self.now in
    let h = subst (λ (x : Framed). IsFramed x.lists x.function x.places) c.self.view_is c.self.invariant in
    let count = many s h in
    let same = ap (λ (x : Framed). x.places) c.self.view_is in
    let long = ap (λ (x : Framed). length x.places) c.self.view_is in
    let number = c.number-place.ensures in
    let first : c.number-place.result < length c.self.inside.places.items = omega (arith, count, long, number, c.requires) in
    let second : c.number-place.result + 1 < length c.self.inside.places.items = omega (arith, count, long, number, c.requires) in
    placed_at s h c.args.id c.index.result.now c.index-2.result.now c.requires
    (get_or_read c.self.inside.places.items _ _ first c.index.ensures 0 ∙ (λ j. get_or (same j) (number j) 0))
    (get_or_read c.self.inside.places.items _ _ second c.index-2.ensures 0 ∙ (λ j. get_or (same j) (number j + 1) 0))
