use Rattle.link_rules.proofs.Names.{fresh_free}
use Rattle.link_rules.proofs.law.fresh_names_are_free.Goals as goal

pub returns : goal.returns
returns c = fresh_free
