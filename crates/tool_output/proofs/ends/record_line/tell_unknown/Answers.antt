use Rattle.std.proofs.Common.{◌++◌, [], ◌∷◌, refl}
use Rattle.std.specs.Prelude.{codes}
use Rattle.tool_output.proofs.OnEnds.Lines.{behind, line_told}
use Rattle.tool_output.proofs.ends.record_line.tell_unknown.Goals as goal

pub returns : goal.returns
returns g c =
    let name = c.args.name.now in let code = c.args.code.now in let block = c.args.block.now in
    let end = 10 ∷ [] in
    let text = name ++ (codes ": unknown record " ++ (code ++ (codes " in block " ++ block))) in
    line_told _ _ _ _ _ _ text _ c.name_of.ensures
    (behind name _ end _ (behind (codes ": unknown record ") _ end _ (behind code _ end _ (behind (codes " in block ") _ end _ refl)))) c.write_pieces.ensures.wrote
