use Rattle.tool_cli.proofs.running.end_told.Goals as goal

pub returns-in-Unresolved : goal.returns-in-Unresolved
returns-in-Unresolved c = rw c.in-Unresolved.is c.unresolved_told.ensures
