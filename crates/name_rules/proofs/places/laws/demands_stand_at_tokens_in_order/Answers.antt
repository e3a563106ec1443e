use Rattle.name_rules.proofs.OnPlaces.Items.{in_order}
use Rattle.name_rules.proofs.places.laws.demands_stand_at_tokens_in_order.Goals as goal

pub returns : goal.returns
returns c = in_order
