use Rattle.std.proofs.Common.{◌≡◌, ◌&&◌, ◌||◌, [], ◌∷◌, false, ◌∙◌}
use Rattle.type_table.specs.Tree.{ptr, void}
use Rattle.module_arena.specs.Changes.{function_in}
use Rattle.module_arena.specs.HostTypes.{is_declared_with, first_types}
use Rattle.module_arena.proofs.host.fixed_fits.Goals as goal

pub returns : goal.returns
returns c =
    let g = function_in c.args.arena.now c.args.function.now in
    let types = first_types c.args.row in
    let first : c.is_declared_with-first.result ≡ is_declared_with g types.returns types.parameters types.variadic =
    c.is_declared_with-first.ensures ∙ (λ j. is_declared_with g (c.types_of-returns.ensures.returns j) (c.types_of-returns.ensures.parameters j) (c.is_variadic.ensures j)) in
    let short : c.is_declared_with-short.result ≡ is_declared_with g void (ptr ∷ []) false = c.is_declared_with-short.ensures in
    λ j. first j || (c.has_short_form.ensures j && short j)
