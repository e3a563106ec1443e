-- The runs of a valid module are typed.
use Rattle.std.specs.Prelude.{[], ◌∷◌}
use Rattle.run_rules.specs.Look.{look, table}
use Rattle.run_rules.specs.Plan.{plan}
use Rattle.run_rules.specs.Side.{begun}
use Rattle.typed_runs.proofs.Opening.{begun_typed}
use Rattle.typed_runs.proofs.Steps.{advanced_typed}
use Rattle.typed_runs.specs.Look.Typings.{typing_of}
use Rattle.typed_runs.specs.Modules.Laws.{RunsAreTyped}
use Rattle.typed_runs.proofs.OnModules.Program.{valid_is_typed}

pub runs_are_typed : RunsAreTyped
runs_are_typed m well_formed valid arguments words input bytes c opens steps =
    let parts = m ∷ [] in
    let t = typing_of parts in
    let typed = valid_is_typed m well_formed valid in
    advanced_typed t (look parts) (table parts) typed.0 steps (begun c input)
    (begun_typed t (look parts) (table parts) (plan parts) typed.1 arguments words input c bytes opens)
