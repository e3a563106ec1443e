use Rattle.linked_runs.proofs.Headline.{linked_looks_alike, linked_runs_as_its_parts}
use Rattle.linked_runs.proofs.law.linking_is_right.Goals as goal

pub returns-clause-alike : goal.returns-clause-alike
returns-clause-alike c = linked_looks_alike

pub returns-clause-runs : goal.returns-clause-runs
returns-clause-runs c = linked_runs_as_its_parts
