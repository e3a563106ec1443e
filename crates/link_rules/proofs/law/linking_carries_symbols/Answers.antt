use Rattle.link_rules.proofs.Carrying.{carries_symbols}
use Rattle.link_rules.proofs.law.linking_carries_symbols.Goals as goal

pub returns : goal.returns
returns c = carries_symbols
