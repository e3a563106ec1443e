use Rattle.std.proofs.Common.{◌≡◌, ◌||◌, ◌∙◌}
use Rattle.run_names.specs.Types.Wanted.{first_type, is_typed, written_as}
use Rattle.run_names.proofs.types.row.fits_fixed.Goals as goal

pub returns : goal.returns
returns c =
    let w = c.args.written.now in
    let used = written_as c.args.types.now w.returns w.parameters.now w.variadic in
    let types = first_type c.args.row in
    let first : c.is_type-first.result ≡ is_typed used types.returns types.parameters types.variadic =
    c.is_type-first.ensures ∙ (λ j. is_typed used (c.types_of-returns.ensures.returns j) (c.types_of-returns.ensures.parameters j) (c.is_variadic.ensures j)) in
    λ j. first j || c.fits_short-short.ensures j
