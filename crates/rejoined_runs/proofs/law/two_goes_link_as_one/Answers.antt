use Rattle.rejoined_runs.proofs.TwoGoes.{conflicts_stay, regroups_symbols, two_goes_look_alike, two_goes_run_alike}
use Rattle.rejoined_runs.proofs.law.two_goes_link_as_one.Goals as goal

pub returns-clause-conflicts : goal.returns-clause-conflicts
returns-clause-conflicts c = conflicts_stay

pub returns-clause-symbols : goal.returns-clause-symbols
returns-clause-symbols c = regroups_symbols

pub returns-clause-alike : goal.returns-clause-alike
returns-clause-alike c = two_goes_look_alike

pub returns-clause-runs : goal.returns-clause-runs
returns-clause-runs c = two_goes_run_alike
