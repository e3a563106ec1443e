use Rattle.std.proofs.Common.{not, nat_eq, ap, sym, ◌∙◌}
use Rattle.type_table.specs.declared.layout.Layout.{Layout}
use Rattle.run_names.specs.Shapes.Shapes.{shape_in}
use Rattle.run_initial.specs.declared.constants.filled.Fill.{Fill}
use Rattle.run_initial.specs.Initial.Fresh.{needed_of}
use Rattle.run_initial.proofs.initial.filled.is_needed.Goals as goal

pub returns-in-Zero : goal.returns-in-Zero
returns-in-Zero c = c.has_pointer.ensures ∙ sym (ap (λ (f : Fill). needed_of f (shape_in c.args.types.now c.args.ty)) c.in-Zero.is)

pub returns-in-Poison : goal.returns-in-Poison
returns-in-Poison c =
    ap (λ (l : Layout). not (nat_eq l.leaves 0)) c.layout_of.ensures ∙ sym (ap (λ (f : Fill). needed_of f (shape_in c.args.types.now c.args.ty)) c.in-Poison.is)
