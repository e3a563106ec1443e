-- For `linking_is_right`, the main theorem: a linked module runs as its parts do, side by side.
use Rattle.std.specs.Prelude.{◌≡◌, List, None}
use Rattle.std.specs.List.{AllByRecursion}
use Rattle.module_arena.specs.Module.{Module}
use Rattle.module_arena.specs.Valid.{IsValid}
use Rattle.module_arena.specs.WellFormed.{IsWellFormed}
use Rattle.linkage_rules.specs.Conflicts.{first_conflict}
use Rattle.link_rules.specs.Carried.{merged}
use Rattle.run_rules.specs.Same.{LookAlike, RunAlike}

-- Parts that are well formed and valid, and have no conflict, are looked up alike in what is made of them: each function has the same
-- actions, each address the same callee, and a run the same blocks, addresses and due calls to begin with
abbrev pub LinkedLooksAlike : Type 0
LinkedLooksAlike = (parts : List Module) → AllByRecursion IsWellFormed parts → AllByRecursion IsValid parts → first_conflict parts ≡ None → LookAlike (merged parts) parts

-- the same output and the same end, for all arguments, inputs and bounds
abbrev pub RunsAsItsParts : List Module → Type 0
RunsAsItsParts parts = RunAlike (merged parts) parts

-- so it is with all parts that are well formed and valid, and have no conflict
abbrev pub LinkedRunsAsItsParts : Type 0
LinkedRunsAsItsParts = (parts : List Module) → AllByRecursion IsWellFormed parts → AllByRecursion IsValid parts → first_conflict parts ≡ None → RunsAsItsParts parts
