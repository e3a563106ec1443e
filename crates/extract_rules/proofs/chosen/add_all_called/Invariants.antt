use Rattle.std.proofs.Common.{◌-◌, ◌^◌}
use Rattle.module_arena.specs.View.{module_of}
use Rattle.extract_rules.proofs.Reaching.{Reaching}
use Rattle.extract_rules.proofs.chosen.add_all_called.Given as goal

abbrev pub invariant-loop-next : goal.invariant-loop-next
invariant-loop-next l = Reaching (module_of l.arena) l.initial.names.keys l.next l.names.keys

abbrev pub decreases-loop-next : goal.decreases-loop-next
decreases-loop-next l = 2 ^ 63 - l.next
