use Rattle.canonical.proofs.OnLaw.WholeTexts.{pieces_are_its_tokens}
use Rattle.canonical.proofs.law.laws.pieces_are_tokens.Goals as goal

pub returns : goal.returns
returns c = pieces_are_its_tokens
