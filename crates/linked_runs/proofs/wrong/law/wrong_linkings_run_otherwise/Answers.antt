use Rattle.linked_runs.proofs.OnWrong.Runs.{alignment, constructors, inside, shared, winner}
use Rattle.linked_runs.proofs.wrong.law.wrong_linkings_run_otherwise.Goals as goal

pub returns-clause-inside : goal.returns-clause-inside
returns-clause-inside c = inside

pub returns-clause-winner : goal.returns-clause-winner
returns-clause-winner c = winner

pub returns-clause-constructors : goal.returns-clause-constructors
returns-clause-constructors c = constructors

pub returns-clause-alignment : goal.returns-clause-alignment
returns-clause-alignment c = alignment

pub returns-clause-shared : goal.returns-clause-shared
returns-clause-shared c = shared
