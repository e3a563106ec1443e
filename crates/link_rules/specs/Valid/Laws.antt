-- For `linking_keeps_modules`: what linking keeps.
use Rattle.std.specs.Prelude.{◌≡◌, List, None}
use Rattle.std.specs.List.{AllByRecursion}
use Rattle.module_arena.specs.Functions.{first_too_large}
use Rattle.module_arena.specs.Module.{Module}
use Rattle.module_arena.specs.Valid.{IsValid}
use Rattle.module_arena.specs.WellFormed.{IsWellFormed}
use Rattle.linkage_rules.specs.Conflicts.{first_conflict}
use Rattle.link_rules.specs.Counts.{too_many}
use Rattle.link_rules.specs.Linked.{link_result}

-- parts that can be linked: each is well formed and valid, and no two have entries in conflict
pub record AreLinkable (parts : List Module) : Type 0 where
  pub good : AllByRecursion IsWellFormed parts
  pub valid : AllByRecursion IsValid parts
  pub agree : first_conflict parts ≡ None

-- what is made of them is valid
abbrev pub LinkedIsValid : Type 0
LinkedIsValid = (parts : List Module) → AreLinkable parts → IsValid (link_result parts)

-- and well formed, where no count is passed
abbrev pub LinkedIsWellFormed : Type 0
LinkedIsWellFormed = (parts : List Module) → AreLinkable parts → too_many parts ≡ None → IsWellFormed (link_result parts)

-- where no part has a function that is too large, it has none
abbrev pub LinkedIsSmall : Type 0
LinkedIsSmall = (parts : List Module) → AllByRecursion (λ m. first_too_large m ≡ None) parts → first_too_large (link_result parts) ≡ None
