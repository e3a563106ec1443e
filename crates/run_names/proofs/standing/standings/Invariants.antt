use Rattle.std.proofs.Common.{◌≡◌, map, take}
use Rattle.run_names.specs.Standings.{function_stands}
use Rattle.run_names.proofs.standing.standings.Given as goal

abbrev pub invariant-functions : goal.invariant-functions
invariant-functions l = l.standings.items ≡ map function_stands (take l.number l.program.functions)
