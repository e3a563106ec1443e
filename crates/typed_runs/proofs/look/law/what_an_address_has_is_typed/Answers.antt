use Rattle.typed_runs.proofs.OnLook.Alone.{callees_are_typed}
use Rattle.typed_runs.proofs.look.law.what_an_address_has_is_typed.Goals as goal

pub returns : goal.returns
returns c = callees_are_typed
