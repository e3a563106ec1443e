use Rattle.run_rules.proofs.OnPlaces.Alone.{never_stuck}
use Rattle.run_rules.proofs.places.law.a_valid_module_never_gets_stuck.Goals as goal

pub returns : goal.returns
returns c = never_stuck
