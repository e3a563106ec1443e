use Rattle.std.proofs.Common.{◌++◌, [], ◌∷◌, refl}
use Rattle.std.specs.Prelude.{codes}
use Rattle.tool_output.proofs.OnEnds.Lines.{behind, line_told}
use Rattle.tool_output.proofs.ends.record_line.tell_bad.Goals as goal

pub returns : goal.returns
returns g c =
    let name = c.args.name.now in let index = c.args.index.now in let block = c.args.block.now in let rule = c.args.rule.now in
    let end = 10 ∷ [] in
    let last = block ++ (codes ", rule " ++ rule) in
    let text = name ++ (codes ": bad record " ++ (index ++ (codes " in block " ++ last))) in
    line_told _ _ _ _ _ _ text _ c.name_of.ensures
    (behind name _ end _ (behind (codes ": bad record ") _ end _ (behind index _ end _ (behind (codes " in block ") last end _ (behind block (codes ", rule " ++ rule) end _ (behind (codes ", rule ") rule end _ refl)))))) c.write_pieces.ensures.wrote
