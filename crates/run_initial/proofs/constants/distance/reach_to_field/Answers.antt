use Rattle.std.proofs.Common.{ℕ, ap, ◌∙◌}
use Rattle.ir_eval.specs.declared.value.Scalar.TheVariants as scalar
use Rattle.run_rules.specs.Displace as rules
use Rattle.run_names.specs.Shapes.Shapes.{shape_in}
use Rattle.run_initial.specs.Constants.Places.{offset_at}
use Rattle.run_initial.proofs.constants.distance.reach_to_field.Goals as goal

pub element_offset-offset-requires : goal.element_offset-offset-requires
element_offset-offset-requires c = record { known = c.requires.place.0; laid = c.requires.place.1 }

pub returns-clause-value : goal.returns-clause-value
returns-clause-value c =
    c.reach.ensures.value
    ∙ ap (λ (n : ℕ). rules.reach (scalar.Int n) 64 1) (c.element_offset-offset.ensures ∙ ap (offset_at (shape_in c.args.types.now c.args.ty)) c.number_of.ensures)
