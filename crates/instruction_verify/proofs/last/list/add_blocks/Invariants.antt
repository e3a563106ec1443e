use Rattle.std.proofs.Common.{flat_map, take}
use Rattle.instruction_verify.specs.Last.Given.{Grows, given_in}
use Rattle.instruction_verify.proofs.last.list.add_blocks.Given as goal

-- the types of the results of the blocks so far are behind what was there
abbrev pub invariant-parts : goal.invariant-parts
invariant-parts l = Grows l.types l.fn.list.items l.list.items (flat_map (given_in l.types) (take l.block-index l.blocks))
