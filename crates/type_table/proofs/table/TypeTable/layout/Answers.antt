use Rattle.std.proofs.Common.{arith, ap, ◌∙◌, get_or, length}
use Rattle.std.specs.Option.{option_and_then}
use Rattle.type_table.specs.declared.measure.Measure.{Measure}
use Rattle.type_table.specs.Layout.{layout}
use Rattle.type_table.specs.Measures.{opaque_measure}
use Rattle.type_table.specs.Types.{Types, shape}
use Rattle.type_table.proofs.Laid.{layout_kept}
use Rattle.type_table.proofs.table.TypeTable.layout.Goals as goal

pub returns : goal.returns
returns c =
    let many = ap (λ (t : Types). length t.types) c.self.view_is in
    ap (λ (m : Measure). m.layout) (c.measure_at.ensures ∙ (λ j. get_or (c.deref.ensures.value j) (c.number.ensures j) opaque_measure))
    ∙ layout_kept _ _ _ c.self.invariant.kept c.args.ty (omega (arith, many, c.requires))
    ∙ ap (λ t. option_and_then layout (shape t c.args.ty)) c.self.view_is
