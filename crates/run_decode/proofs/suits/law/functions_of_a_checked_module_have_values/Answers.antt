use Rattle.run_decode.proofs.OnSuits.Functions.{functions_have_values}
use Rattle.run_decode.proofs.suits.law.functions_of_a_checked_module_have_values.Goals as goal

pub returns : goal.returns
returns c = functions_have_values
