use Rattle.canonical.proofs.OnLaw.WholeTexts.{items_are_read}
use Rattle.canonical.proofs.law.laws.tokens_are_items.Goals as goal

pub returns : goal.returns
returns c = items_are_read
