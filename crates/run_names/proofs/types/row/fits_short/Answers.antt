use Rattle.std.proofs.Common.{◌&&◌, Bool, [], ◌∷◌, false, sym, ap, ◌∙◌}
use Rattle.type_table.specs.Shape.{ptr_leaf, void_leaf}
use Rattle.run_names.specs.Types.Wanted.{is_typed, written_as}
use Rattle.run_names.proofs.types.row.fits_short.Goals as goal

pub returns-then-not-has_short_form : goal.returns-then-not-has_short_form
returns-then-not-has_short_form c =
    let w = c.args.written.now in
    let short = is_typed (written_as c.args.types.now w.returns w.parameters.now w.variadic) void_leaf (ptr_leaf ∷ []) false in
    ap (λ (t : Bool). t && short) (sym (sym c.has_short_form.ensures ∙ c.if-not-has_short_form.true))

pub returns : goal.returns
returns c =
    let w = c.args.written.now in
    let short = is_typed (written_as c.args.types.now w.returns w.parameters.now w.variadic) void_leaf (ptr_leaf ∷ []) false in
    c.is_type.ensures ∙ ap (λ (t : Bool). t && short) (sym (sym c.has_short_form.ensures ∙ c.if-not-has_short_form.false))
