use Rattle.std.specs.Vec.{vec_len}
use Rattle.module_linker.proofs.OnIds.Handed.{AreHanded}
use Rattle.module_linker.proofs.ids.ids.set_new_ids.Given as goal

-- the copiers of the last parts have their ids
abbrev pub invariant-parts : goal.invariant-parts
invariant-parts l = AreHanded l.initial.ids.items l.ids.items l.initial.copiers l.copiers

abbrev pub decreases-parts : goal.decreases-parts
decreases-parts l = vec_len l.ids
