-- For `two_goes_link_as_one`: the conflict that is reported where the first parts were linked
-- before.
use Rattle.std.specs.Prelude.{◌≡◌, ℕ, List, ◌++◌, length, option_map, None}
use Rattle.std.specs.List.{AllByRecursion}
use Rattle.module_arena.specs.Module.{Module}
use Rattle.module_arena.specs.Valid.{IsValid}
use Rattle.module_arena.specs.WellFormed.{IsWellFormed}
use Rattle.linkage_rules.specs.Conflicts.{FoundConflict, first_conflict}
use Rattle.rejoined_runs.specs.Regrouped.{regrouped, part_after}

-- the same conflict, with the numbers that its parts have where the first `count` are one
abbrev pub conflict_after : ℕ → FoundConflict → FoundConflict
conflict_after count c =
    record {
      kind = c.kind;
      name = c.name;
      one = part_after count c.one;
      other =
          part_after count c.other;
    }

-- Where the first parts have no conflict, one is reported of their module and the others exactly
-- where one is reported of all at
-- once: of that kind and name, a first part being part 0, and the others following it
abbrev pub ConflictsStay : Type 0
ConflictsStay = (a b : List Module) → AllByRecursion IsWellFormed a → AllByRecursion IsValid a
    → first_conflict a ≡ None
    → first_conflict (regrouped a b)
    ≡ option_map (conflict_after (length a)) (first_conflict (a ++ b))
