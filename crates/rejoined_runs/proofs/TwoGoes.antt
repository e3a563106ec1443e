-- Linking in two goes is linking at once.
use Rattle.std.specs.Prelude.{List}
use Rattle.module_arena.specs.Module.{Module}
use Rattle.link_rules.proofs.Carrying.{carries_symbols, targets_known}
use Rattle.link_rules.proofs.Searches.{all_front}
use Rattle.linked_runs.proofs.Fits.{fits}
use Rattle.run_rules.specs.Same.{LookAlike}
use Rattle.run_rules.specs.Side.{run_of}
use Rattle.rejoined_runs.specs.Conflicts.{ConflictsStay}
use Rattle.rejoined_runs.specs.Regrouped.{regrouped}
use Rattle.rejoined_runs.specs.Regroups.{RegroupsSymbols}
use Rattle.rejoined_runs.specs.Runs.{TwoGoesLookAlike, TwoGoesRunAlike}
use Rattle.rejoined_runs.proofs.CodeAfter.{same_actions, same_callees}
use Rattle.rejoined_runs.proofs.ConflictAfter.{conflict_stays}
use Rattle.rejoined_runs.proofs.Homes.{Ready, old}
use Rattle.rejoined_runs.proofs.LookUps.{regroups}
use Rattle.rejoined_runs.proofs.PlacesAfter.{Both}
use Rattle.rejoined_runs.proofs.PlanAfter.{same_plan}
use Rattle.rejoined_runs.proofs.Readying.{ready, appended}
use Rattle.rejoined_runs.proofs.RoomsAfter.{rooms_kept}

pub conflicts_stay : ConflictsStay
conflicts_stay a b formed valid none =
    conflict_stays a b (ready a formed valid none) none (appended a formed valid none)

pub regroups_symbols : RegroupsSymbols
regroups_symbols a b formed valid none =
    regroups a b (ready a formed valid none) (targets_known a formed)

look_alike : (a b : List Module) → Ready a → Both a b → LookAlike (regrouped a b) (old a b)
look_alike a b is both = record {
  same_actions = same_actions a b is both (rooms_kept a b is both);
  same_callees = same_callees a b is both (rooms_kept a b is both);
  same_plan = same_plan a b is both (rooms_kept a b is both);
}

pub two_goes_look_alike : TwoGoesLookAlike
two_goes_look_alike a b two =
    let formed = all_front _ a b two.formed in
    let valid = all_front _ a b two.valid in
    look_alike a b (ready a formed valid two.first_agree) (record {
      first = fits a formed valid two.first_agree;
      first_merges = carries_symbols a formed valid two.first_agree;
      fit = fits (old a b) two.formed two.valid two.agree;
      merges = carries_symbols (old a b) two.formed two.valid two.agree;
      regroups = regroups_symbols a b formed valid two.first_agree;
    })

pub two_goes_run_alike : TwoGoesRunAlike
two_goes_run_alike a b two arguments input bound =
    let alike = two_goes_look_alike a b two in
    λ i. run_of (λ f n p. alike.same_actions f n p i) (λ address. alike.same_callees address i)
    (alike.same_plan i) arguments input bound
