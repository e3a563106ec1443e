use Rattle.run_decode.proofs.OnSuits.Suited.{functions_suit}
use Rattle.run_decode.proofs.suits.law.functions_of_a_checked_module_suit.Goals as goal

pub returns : goal.returns
returns c = functions_suit
