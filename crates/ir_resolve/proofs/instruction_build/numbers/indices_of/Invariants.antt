use Rattle.std.proofs.Common.{◌≡◌, map, take}
use Rattle.name_rules.specs.Written.{natural}
use Rattle.ir_resolve.proofs.instruction_build.numbers.indices_of.Given as goal

abbrev pub invariant-loop-integer : goal.invariant-loop-integer
invariant-loop-integer l = l.indices.items ≡ map natural (take l.integer-index l.written)
