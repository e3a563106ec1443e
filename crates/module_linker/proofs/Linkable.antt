-- Sealed parts without a conflict, of which no count is passed, can be linked.
use Rattle.std.proofs.Common.{◌≡◌, suc, List, [], ◌∷◌, All, None, arith}
use Rattle.std.specs.List.{AllByRecursion}
use Rattle.linkage_rules.specs.Conflicts.{first_conflict}
use Rattle.linkage_rules.specs.Ids.{modules}
use Rattle.link_rules.specs.Valid.Laws.{AreLinkable, LinkedIsWellFormed}
use Rattle.module_arena.specs.Lists.{Lists}
use Rattle.module_arena.specs.Module.{Module}
use Rattle.module_arena.specs.Sound.{IsSound}
use Rattle.module_arena.specs.Valid.{IsValid}
use Rattle.module_arena.specs.WellFormed.{IsWellFormed}
use Rattle.link_rules.specs.Counts.{too_many}
use Rattle.module_linker.specs.Stages.Parts.{CanLink}

-- each is well formed and valid
pub all_sound : (parts : List Lists) → All IsSound parts → AllByRecursion IsWellFormed (modules parts) × AllByRecursion IsValid (modules parts)
all_sound [] sound = (tt, tt)
all_sound (p ∷ parts) sound =
    let here = sound 0 p (omega arith) in
    let rest = all_sound parts (λ k d lt. sound (suc k) d (omega (arith, lt))) in
    ((here.well_formed, rest.0), (here.valid, rest.1))

pub are_linkable : (parts : List Lists) → All IsSound parts → first_conflict (modules parts) ≡ None → AreLinkable (modules parts)
are_linkable parts sound agree =
    let all = all_sound parts sound in
    record { good = all.0; valid = all.1; agree = agree }

pub can_link : (parts : List Lists) → All IsSound parts → first_conflict (modules parts) ≡ None → too_many (modules parts) ≡ None → LinkedIsWellFormed → CanLink (modules parts)
can_link parts sound agree few law =
    let all = all_sound parts sound in
    record { good = all.0; valid = all.1; agree = agree; few = few; whole = law (modules parts) (are_linkable parts sound agree) few }

pub still_linkable : (parts : List Module) → CanLink parts → AreLinkable parts
still_linkable parts can = record { good = can.good; valid = can.valid; agree = can.agree }
