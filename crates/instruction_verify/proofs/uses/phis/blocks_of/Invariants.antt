use Rattle.std.proofs.Common.{◌≡◌, map, take}
use Rattle.instruction_verify.proofs.uses.phis.blocks_of.Given as goal

-- those of the first entries
abbrev pub invariant-entries : goal.invariant-entries
invariant-entries l = l.blocks.items ≡ map (λ i. i.block) (take l.entry-index l.incoming)
