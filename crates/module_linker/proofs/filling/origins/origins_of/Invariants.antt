use Rattle.std.proofs.Common.{◌≡◌, map, take}
use Rattle.module_linker.specs.Filling.Origins.{origin_in}
use Rattle.module_linker.proofs.filling.origins.origins_of.Given as goal

abbrev pub invariant-loop-symbol : goal.invariant-loop-symbol
invariant-loop-symbol l = l.origins.items ≡ map (origin_in l.fn.bindings) (take l.symbol-index l.symbol-items)
