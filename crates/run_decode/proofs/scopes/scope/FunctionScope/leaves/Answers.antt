use Rattle.std.proofs.Common.{◌≡◌, ◌-◌, ◌<◌, get_or, length, ap, ◌∙◌, subst, arith}
use Rattle.std.proofs.lemmas.List.{get_or_read}
use Rattle.module_arena.specs.Lists.{value_names}
use Rattle.run_decode.specs.Scopes.Scopes.{Framed, IsFramed}
use Rattle.run_decode.proofs.OnScopes.Bounded.{frame_size, many}
use Rattle.run_decode.proofs.scopes.scope.FunctionScope.leaves.Goals as goal

pub overflow_sub-len : goal.overflow_sub-len
overflow_sub-len c =
    let s = c.args.self.now in
    let h = subst (λ (x : Framed). IsFramed x.lists x.function x.places) c.self.view_is c.self.invariant in
    omega (arith, many s h, ap (λ (x : Framed). length x.places) c.self.view_is, c.len.ensures, c.self.inside.places.ok.0)

pub index-requires : goal.index-requires
index-requires c =
    let s = c.args.self.now in
    let h = subst (λ (x : Framed). IsFramed x.lists x.function x.places) c.self.view_is c.self.invariant in
    omega (arith, many s h, ap (λ (x : Framed). length x.places) c.self.view_is, c.len.ensures, c.self.inside.places.ok.0)

pub returns : goal.returns
returns c =
    let s = c.args.self.now in
    let h = subst (λ (x : Framed). IsFramed x.lists x.function x.places) c.self.view_is c.self.invariant in
    let count = many s h in
    let same = ap (λ (x : Framed). x.places) c.self.view_is in
    let long = ap (λ (x : Framed). length x.places) c.self.view_is in
    let last : c.len.result - 1 ≡ length (value_names s.function) = omega (arith, count, long, c.len.ensures, c.self.inside.places.ok.0) in
    let within : c.len.result - 1 < length c.self.inside.places.items = omega (arith, count, long, last) in
    frame_size s h (length (value_names s.function)) c.index.result.now count (get_or_read c.self.inside.places.items _ _ within c.index.ensures 0 ∙ (λ j. get_or (same j) (last j) 0))
