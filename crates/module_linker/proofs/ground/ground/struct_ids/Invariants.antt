use Rattle.std.proofs.Common.{◌≡◌, take}
use Rattle.module_linker.proofs.ground.ground.struct_ids.Given as goal

abbrev pub invariant-numbers : goal.invariant-numbers
invariant-numbers l = l.ids.items ≡ take l.number-index l.numbers
