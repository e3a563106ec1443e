use Rattle.std.proofs.Common.{ℕ, List, ◌∷◌, ◌++◌, ap, ◌∙◌}
use Rattle.std.specs.Fmt.{decimal}
use Rattle.tool_cli.proofs.entity.spell_block.Goals as goal

pub returns-in_ok-put_number-in-Numbered : goal.returns-in_ok-put_number-in-Numbered
returns-in_ok-put_number-in-Numbered c =
    rw c.in-Numbered.is (c.in_ok-put_number-in-Numbered.ensures ∙ ap (λ (t : List ℕ). t ++ decimal c.from.result) c.in_ok-text-in-Numbered.ensures ∙ ap (λ (n : ℕ). 37 ∷ decimal n) c.from.ensures)
