-- For the calls that make a linked module (`copy_ground`, `declare_symbols`, `define_symbols`): parts that can be linked.
use Rattle.std.specs.Prelude.{◌≡◌, List, None}
use Rattle.std.specs.List.{AllByRecursion}
use Rattle.module_arena.specs.Module.{Module}
use Rattle.module_arena.specs.Valid.{IsValid}
use Rattle.module_arena.specs.WellFormed.{IsWellFormed}
use Rattle.linkage_rules.specs.Conflicts.{first_conflict}
use Rattle.linkage_rules.specs.Ids.{modules}
use Rattle.linkage_rules.specs.Resolved.{Resolved, AreBindings}
use Rattle.linkage_rules.specs.Symbols.{symbols}
use Rattle.module_arena.specs.Lists.{Lists}
use Rattle.link_rules.specs.Counts.{too_many}
use Rattle.link_rules.specs.Linked.{link_result}

-- Parts that can be linked: each is well formed and valid, no two have entries in conflict, and no count is past its limit. What is made of
-- them is well formed then.
pub record CanLink (parts : List Module) : Type 0 where
  pub good : AllByRecursion IsWellFormed parts
  pub valid : AllByRecursion IsValid parts
  pub agree : first_conflict parts ≡ None
  pub few : too_many parts ≡ None
  pub whole : IsWellFormed (link_result parts)

-- The symbols of the parts, in order, with their entries and homes.
pub record IsResolved (parts : List Lists) (r : Resolved) : Type 0 where
  pub symbols : r.symbols ≡ symbols (modules parts)
  pub bindings : AreBindings parts r
