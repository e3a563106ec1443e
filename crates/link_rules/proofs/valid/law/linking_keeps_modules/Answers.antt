use Rattle.link_rules.proofs.OnValid.AppendedGood.{link_is_well_formed}
use Rattle.link_rules.proofs.OnValid.LinkedIsValid.{link_is_valid}
use Rattle.link_rules.proofs.OnValid.Sizes.{link_is_small}
use Rattle.link_rules.proofs.valid.law.linking_keeps_modules.Goals as goal

pub returns-clause-valid : goal.returns-clause-valid
returns-clause-valid c = link_is_valid

pub returns-clause-well_formed : goal.returns-clause-well_formed
returns-clause-well_formed c = link_is_well_formed

pub returns-clause-small : goal.returns-clause-small
returns-clause-small c = link_is_small
