use Rattle.std.proofs.Common.{◌≡◌, map, take}
use Rattle.run_names.specs.Spots.{is_defined}
use Rattle.run_initial.proofs.missing.defined.defined_variables.Given as goal

abbrev pub invariant-variables : goal.invariant-variables
invariant-variables l = l.flags ≡ map is_defined (take l.number l.arena.variables)
