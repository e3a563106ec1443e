use Rattle.std.proofs.Common.{map, sym, ◌∙◌}
use Rattle.std.proofs.lemmas.List.{length-map}
use Rattle.run_names.specs.Shapes.Shapes.{shape_in}
use Rattle.run_names.specs.Types.Wanted.{shape_wanted}
use Rattle.run_names.proofs.OnTypes.Asked.{other_length}
use Rattle.run_names.proofs.types.wanted.are_wanted.Goals as goal

pub returns-then-parameters-wanted : goal.returns-then-parameters-wanted
returns-then-parameters-wanted c =
    let f = shape_in c.args.types.now in
    sym (other_length (map f c.args.parameters.now) (map shape_wanted c.args.wanted.now)
    (λ e. c.if-parameters-wanted.true (sym (length-map c.args.parameters.now f) ∙ e ∙ length-map c.args.wanted.now shape_wanted)))
