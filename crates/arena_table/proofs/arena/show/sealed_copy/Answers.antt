use Rattle.arena_table.proofs.Empty.{empty_well_formed, empty_valid}
use Rattle.arena_table.proofs.arena.show.sealed_copy.Goals as goal

pub seal-sealed-requires-clause-well_formed : goal.seal-sealed-requires-clause-well_formed
seal-sealed-requires-clause-well_formed c = empty_well_formed _ c.new.ensures

pub seal-sealed-requires-clause-valid : goal.seal-sealed-requires-clause-valid
seal-sealed-requires-clause-valid c = empty_valid _ c.new.ensures
