use Rattle.name_rules.proofs.OnPlaces.Least.{at_the_least_place}
use Rattle.name_rules.proofs.places.laws.the_first_break_stands_at_the_least_place.Goals as goal

pub returns : goal.returns
returns c = at_the_least_place
