use Rattle.std.proofs.Common.{◌++◌, [], ◌∷◌, refl}
use Rattle.std.specs.Prelude.{codes}
use Rattle.tool_output.proofs.OnEnds.Lines.{behind, line_told}
use Rattle.tool_output.proofs.ends.error_line.tell_function.Goals as goal

pub returns : goal.returns
returns g c =
    let name = c.args.name.now in let function = c.args.function.now in let size = c.args.size.now in
    let end = 10 ∷ [] in
    let text = name ++ (codes ": function too large: " ++ (function ++ (codes ", " ++ size))) in
    line_told _ _ _ _ _ _ text _ c.name_of.ensures
    (behind name _ end _ (behind (codes ": function too large: ") _ end _ (behind function _ end _ (behind (codes ", ") _ end _ refl)))) c.write_pieces.ensures.wrote
