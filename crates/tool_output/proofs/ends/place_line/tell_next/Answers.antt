use Rattle.std.proofs.Common.{◌++◌, [], ◌∷◌, refl}
use Rattle.std.specs.Prelude.{codes}
use Rattle.tool_output.specs.Ends.Ended.{located_by}
use Rattle.tool_output.proofs.OnEnds.Lines.{behind, line_told}
use Rattle.tool_output.proofs.ends.place_line.tell_next.Goals as goal

pub returns : goal.returns
returns g c =
    let name = c.args.name.now in let line = c.args.line.now in let column = c.args.column.now in
    let next = c.args.next.now in let found = c.args.found.now in
    let end = 10 ∷ [] in
    let last = found ++ codes " found" in
    let middle = next ++ (codes " expected, " ++ last) in
    let numbers = codes "number " ++ middle in
    let text = located_by name line column numbers in
    line_told _ _ _ _ _ _ text _ c.name_of.ensures
    (behind name _ end _ (behind (codes ":") _ end _ (behind line _ end _ (behind (codes ":") _ end _ (behind column _ end _ (behind (codes ": ") numbers end _
    (behind (codes "number ") middle end _ (behind next (codes " expected, " ++ last) end _ (behind (codes " expected, ") last end _ (behind found (codes " found") end _ refl)))))))))) c.write_pieces.ensures.wrote
