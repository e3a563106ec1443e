use Rattle.rejoined_runs.proofs.HalvesAgree.{halves_agree}
use Rattle.rejoined_runs.proofs.law.split_modules_link_again.Goals as goal

pub returns : goal.returns
returns c = record { agree = halves_agree }
