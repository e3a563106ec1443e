use Rattle.link_rules.proofs.Carrying.{names_stay_apart, struct_names_stay_apart}
use Rattle.link_rules.proofs.law.names_stay_apart.Goals as goal

pub returns-clause-symbols : goal.returns-clause-symbols
returns-clause-symbols c = names_stay_apart

pub returns-clause-structs : goal.returns-clause-structs
returns-clause-structs c = struct_names_stay_apart
