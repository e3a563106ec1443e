-- For `fates_give_the_part`: what entries become by their fates.
use Rattle.std.specs.Prelude.{◌≡◌}
use Rattle.module_arena.specs.Module.{Module}
use Rattle.extract_rules.specs.declared.selection.Selection.{Selection}
use Rattle.extract_rules.specs.Extracted.{Extracted}
use Rattle.extract_core.specs.declared.fates.fates.Fates.{Fates}
use Rattle.extract_core.specs.Fates.Fates.{AreFates, part_by}

-- the part by the fates of all entries is what is extracted
abbrev pub FatesGiveThePart : Type 0
FatesGiveThePart = (m : Module) (s : Selection) (fates : Fates) → AreFates m s fates → part_by m fates ≡ Extracted m s
