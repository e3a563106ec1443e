use Rattle.name_rules.proofs.Told.{told_if_ok}
use Rattle.name_rules.proofs.spelled.spell_number.Goals as goal

pub returns : goal.returns
returns c = told_if_ok c.digits.result c.args.number.now c.digits.ensures
