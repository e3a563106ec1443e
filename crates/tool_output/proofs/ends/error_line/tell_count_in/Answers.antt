use Rattle.std.proofs.Common.{◌++◌, [], ◌∷◌, refl}
use Rattle.std.specs.Prelude.{codes}
use Rattle.tool_output.proofs.OnEnds.Lines.{behind, line_told}
use Rattle.tool_output.proofs.ends.error_line.tell_count_in.Goals as goal

pub returns : goal.returns
returns g c =
    let name = c.args.name.now in let kind = c.args.kind.now in let count = c.args.count.now in
    let end = 10 ∷ [] in
    let text = name ++ (codes ": too many " ++ (kind ++ (codes ": " ++ count))) in
    line_told _ _ _ _ _ _ text _ c.name_of.ensures
    (behind name _ end _ (behind (codes ": too many ") _ end _ (behind kind _ end _ (behind (codes ": ") _ end _ refl)))) c.write_pieces.ensures.wrote
