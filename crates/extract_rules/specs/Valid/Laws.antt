-- For `extraction_keeps_modules`: what extraction keeps.
use Rattle.std.specs.Prelude.{◌≡◌, None}
use Rattle.module_arena.specs.Functions.{first_too_large}
use Rattle.module_arena.specs.Module.{Module}
use Rattle.module_arena.specs.Valid.{IsValid}
use Rattle.module_arena.specs.WellFormed.{IsWellFormed}
use Rattle.extract_rules.specs.declared.selection.Selection.{Selection}
use Rattle.extract_rules.specs.Extracted.{Extracted}

-- what is extracted is well formed, whatever is selected
abbrev pub ExtractedIsWellFormed : Type 0
ExtractedIsWellFormed = (m : Module) (s : Selection) → IsWellFormed m → IsValid m → IsWellFormed (Extracted m s)

-- and valid
abbrev pub ExtractedIsValid : Type 0
ExtractedIsValid = (m : Module) (s : Selection) → IsWellFormed m → IsValid m → IsValid (Extracted m s)

-- where no function is too large, none that is extracted is
abbrev pub ExtractedIsSmall : Type 0
ExtractedIsSmall = (m : Module) (s : Selection) → first_too_large m ≡ None → first_too_large (Extracted m s) ≡ None
