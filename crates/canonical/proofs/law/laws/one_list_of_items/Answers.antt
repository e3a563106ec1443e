use Rattle.canonical.proofs.OnLaw.WholeTexts.{items_are_once}
use Rattle.canonical.proofs.law.laws.one_list_of_items.Goals as goal

pub returns : goal.returns
returns c = items_are_once
