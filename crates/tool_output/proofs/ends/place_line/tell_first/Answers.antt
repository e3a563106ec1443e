use Rattle.std.proofs.Common.{◌++◌, [], ◌∷◌, refl}
use Rattle.std.specs.Prelude.{codes}
use Rattle.tool_output.specs.Ends.Ended.{located_by}
use Rattle.tool_output.proofs.OnEnds.Lines.{behind, line_told}
use Rattle.tool_output.proofs.ends.place_line.tell_first.Goals as goal

pub returns : goal.returns
returns g c =
    let name = c.args.name.now in let line = c.args.line.now in let column = c.args.column.now in
    let first_line = c.args.first_line.now in let first_column = c.args.first_column.now in
    let end = 10 ∷ [] in
    let last = codes ":" ++ first_column in
    let first = codes "duplicate, first at " ++ (first_line ++ last) in
    let text = located_by name line column first in
    line_told _ _ _ _ _ _ text _ c.name_of.ensures
    (behind name _ end _ (behind (codes ":") _ end _ (behind line _ end _ (behind (codes ":") _ end _ (behind column _ end _ (behind (codes ": ") first end _
    (behind (codes "duplicate, first at ") (first_line ++ last) end _ (behind first_line last end _ (behind (codes ":") first_column end _ refl))))))))) c.write_pieces.ensures.wrote
