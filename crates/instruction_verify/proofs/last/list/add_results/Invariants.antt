use Rattle.std.proofs.Common.{flat_map, take}
use Rattle.instruction_verify.specs.Last.Given.{Grows, given}
use Rattle.instruction_verify.proofs.last.list.add_results.Given as goal

-- the types of the results so far are behind what was there
abbrev pub invariant-instructions : goal.invariant-instructions
invariant-instructions l = Grows l.types l.fn.list.items l.list.items (flat_map (given l.types) (take l.instruction-index l.instructions))
