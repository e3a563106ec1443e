-- For `split_modules_link_again`: a module that is cut in two.
use Rattle.std.specs.Prelude.{◌≡◌, not, List, [], ◌∷◌, None}
use Rattle.module_arena.specs.Module.{Module}
use Rattle.module_arena.specs.Valid.{IsValid}
use Rattle.module_arena.specs.WellFormed.{IsWellFormed}
use Rattle.linkage_rules.specs.Conflicts.{first_conflict}
use Rattle.extract_rules.specs.declared.selection.Selection.{Selection}
use Rattle.extract_rules.specs.Extracted.{Extracted}

-- the selection of what is left
abbrev pub turned : Selection → Selection
turned s = record s { delete = not s.delete }

-- what is selected, and then what is left
abbrev pub halves : Module → Selection → List Module
halves m s = Extracted m s ∷ Extracted m (turned s) ∷ []

-- the halves of a module that is well formed and valid have no conflict
abbrev pub HalvesAgree : Type 0
HalvesAgree = (m : Module) (s : Selection) → IsWellFormed m → IsValid m
    → first_conflict (halves m s) ≡ None
