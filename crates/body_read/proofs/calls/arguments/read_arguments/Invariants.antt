use Rattle.std.proofs.Common.{◌-◌, map}
use Rattle.type_read.specs.Arena.Kept.{tree_at}
use Rattle.body_read.proofs.OnCalls.ArgumentLists.{Gives}
use Rattle.body_read.proofs.calls.arguments.read_arguments.Given as goal

abbrev pub invariant-arguments : goal.invariant-arguments
invariant-arguments l = Gives (map (tree_at l.initial.m.growing.arena.table) l.parameters) l.initial.m l.m l.count l.place l.arguments.items

abbrev pub decreases-arguments : goal.decreases-arguments
decreases-arguments l = l.count - l.place
