use Rattle.module_arena.proofs.Powers.{alignments_are_powers}
use Rattle.module_arena.proofs.laws.alignments_are_powers_of_two.Goals as goal

pub returns : goal.returns
returns c = alignments_are_powers
