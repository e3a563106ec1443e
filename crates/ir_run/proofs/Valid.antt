-- What is opened of a valid module is an open run.
use Rattle.std.proofs.Common.{◌≡◌, ℕ, List, Result, Ok, ap, ◌∙◌, subst}
use Rattle.module_arena.specs.Lists.{Lists}
use Rattle.module_arena.specs.Valid.{IsValid}
use Rattle.module_arena.specs.View.{module_of}
use Rattle.module_arena.specs.WellFormed.{IsWellFormed}
use Rattle.run_names.specs.Told.{alone}
use Rattle.run_rules.specs.declared.end.End.{End}
use Rattle.run_rules.specs.Opening.{opened}
use Rattle.run_rules.specs.Plan.{plan}
use Rattle.run_acts.specs.Program.Loaded.{Loaded, nothing_ready}
use Rattle.ir_run.specs.declared.beginning.OpenRun.{OpenRun}
use Rattle.ir_run.specs.Opens.{Opens}
use Rattle.typed_runs.specs.Plans.{AreWords}
use Rattle.typed_runs.proofs.OnModules.Program.{valid_is_typed}
use Rattle.ir_run.specs.Fresh.{IsOpenRun}
use Rattle.ir_run.proofs.Begun.{is_open_run, opens_here}

pub open_run_so : (a names : Lists) (words : List (List ℕ)) (p : Loaded) (r : Result OpenRun End) (o : OpenRun) → IsWellFormed (module_of a) → IsValid (module_of a) → AreWords words → names ≡ a
    → Opens r (opened (plan (alone (module_of names))) words) → r ≡ Ok o → p ≡ nothing_ready names → IsOpenRun p o
open_run_so a names words p r o well_formed valid w is h e fresh =
    let typed = valid_is_typed (module_of a) well_formed valid in
    is_open_run a words p o typed.0 typed.1 w (subst (λ (x : Result OpenRun End). Opens x (opened (plan (alone (module_of a))) words)) e (opens_here a names words r is h)) (fresh ∙ ap nothing_ready is)
