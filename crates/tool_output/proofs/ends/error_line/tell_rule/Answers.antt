use Rattle.std.proofs.Common.{◌++◌, [], ◌∷◌, refl}
use Rattle.std.specs.Prelude.{codes}
use Rattle.tool_output.proofs.OnEnds.Lines.{behind, line_told}
use Rattle.tool_output.proofs.ends.error_line.tell_rule.Goals as goal

pub returns : goal.returns
returns g c =
    let name = c.args.name.now in let rule = c.args.rule.now in let entity = c.args.entity.now in
    let end = 10 ∷ [] in
    let text = name ++ (codes ": invalid V" ++ (rule ++ (codes " at " ++ entity))) in
    line_told _ _ _ _ _ _ text _ c.name_of.ensures
    (behind name _ end _ (behind (codes ": invalid V") _ end _ (behind rule _ end _ (behind (codes " at ") _ end _ refl)))) c.write_pieces.ensures.wrote
