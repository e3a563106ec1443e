use Rattle.name_judge.proofs.locals.local_names.LocalNames.is_in_turn.Goals as goal

pub returns-in-Numbered : goal.returns-in-Numbered
returns-in-Numbered c = rw c.in-Numbered.is c.is_marked.ensures
