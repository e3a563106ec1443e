use Rattle.std.proofs.Common.{◌≡◌, take}
use Rattle.bitcode_read.specs.Holding.Holding.{initialised_by}
use Rattle.bitcode_read.proofs.holding.setting.set_initialisers.Given as goal

abbrev pub invariant-variables : goal.invariant-variables
invariant-variables l = l.arena ≡ record l.initial.arena { variables = initialised_by l.initial.arena.variables (take l.number l.initialisers) }
