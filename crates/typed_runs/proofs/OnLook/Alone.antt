-- A module alone.
use Rattle.run_rules.proofs.OnPlaces.Alone.{is_valid}
use Rattle.std.specs.Prelude.{[], ◌∷◌}
use Rattle.typed_runs.specs.Look.Laws.{CalleesAreTyped}
use Rattle.typed_runs.proofs.OnLook.Callees.{callees_typed}

pub callees_are_typed : CalleesAreTyped
callees_are_typed m well_formed valid address = callees_typed (m ∷ []) (is_valid m well_formed valid) address
