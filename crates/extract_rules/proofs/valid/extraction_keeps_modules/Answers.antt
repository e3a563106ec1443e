use Rattle.extract_rules.proofs.OnValid.Constants.{constants_good}
use Rattle.extract_rules.proofs.OnValid.ExtractedIsValid.{extract_is_valid}
use Rattle.extract_rules.proofs.OnValid.Sizes.{extract_is_small}
use Rattle.extract_rules.proofs.OnValid.WellFormedButConstants.{well_formed_but_constants}
use Rattle.extract_rules.proofs.valid.extraction_keeps_modules.Goals as goal

pub returns-clause-well_formed : goal.returns-clause-well_formed
returns-clause-well_formed c = λ m s good valid. well_formed_but_constants m s good valid (constants_good m s good)

pub returns-clause-valid : goal.returns-clause-valid
returns-clause-valid c = extract_is_valid

pub returns-clause-small : goal.returns-clause-small
returns-clause-small c = extract_is_small
