use Rattle.std.proofs.Common.{◌≡◌, ◌<◌, length, Some, sym, ◌∙◌, subst}
use Rattle.std.specs.Prelude.{slice_get}
use Rattle.module_arena.specs.Known.{IsGood}
use Rattle.module_arena.specs.Lists.{Lists}
use Rattle.module_arena.specs.View.{module_of}
use Rattle.module_arena.specs.WellFormed.{IsWellFormed}
use Rattle.run_decode.specs.Scopes.Places.{HasValues}
use Rattle.run_decode.specs.Scopes.Scopes.{bounds_from, typed_of}
use Rattle.run_decode.proofs.OnScopes.Viewed.{is_framed}
use Rattle.run_decode.proofs.scopes.scope.FunctionScope.new.Goals as goal

pub function-function-requires : goal.function-function-requires
function-function-requires c = subst (λ (a : Lists). c.args.id < length a.functions) (sym (c.arena-arena.ensures.arena ∙ c.program.ensures)) c.requires.id

pub places_of-requires : goal.places_of-requires
places_of-requires c =
    let same = c.arena-arena.ensures.arena ∙ c.program.ensures in
    let f = c.function-function.result.now in
    subst (λ (a : Lists). HasValues a f) (sym same) (c.requires.values f (subst (λ (a : Lists). slice_get a.functions c.args.id ≡ Some f) same c.function-function.ensures))

pub invariant_of-result : goal.invariant_of-result
invariant_of-result c =
    let same = c.arena-arena.ensures.arena ∙ c.program.ensures in
    let f = c.function-function.result.now in
    let places = c.in_ok-places.places.items in
    is_framed c.args.names.now c.args.id f places
    (subst (λ (a : Lists). IsWellFormed (module_of a)) c.program.ensures c.arena-arena.ensures.well_formed)
    (subst IsGood same c.variable_count-count.ensures.good)
    (subst (λ (a : Lists). slice_get a.functions c.args.id ≡ Some f) same c.function-function.ensures)
    (subst (λ (a : Lists). places ≡ bounds_from 0 (typed_of a f)) same c.in_ok-places.ensures)
