use Rattle.std.proofs.Common.{◌≡◌, map, take}
use Rattle.run_names.specs.Standings.{has_code}
use Rattle.run_initial.proofs.missing.defined.defined_functions.Given as goal

abbrev pub invariant-functions : goal.invariant-functions
invariant-functions l = l.flags ≡ map has_code (take l.number l.arena.functions)
