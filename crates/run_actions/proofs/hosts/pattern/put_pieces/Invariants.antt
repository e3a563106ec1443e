use Rattle.std.proofs.Common.{◌-◌, length}
use Rattle.run_actions.proofs.OnHosts.Walked.{IsUnderWay}
use Rattle.run_actions.proofs.hosts.pattern.put_pieces.Given as goal

abbrev pub invariant-pieces : goal.invariant-pieces
invariant-pieces l = IsUnderWay l.memory l.format.pattern.now l.format.kinds.now l.format.arguments.now l.place l.initial.written.items l.written.items

-- no piece begins behind the pattern's end, and only the end begins there
abbrev pub decreases-pieces : goal.decreases-pieces
decreases-pieces l = length l.format.pattern.now - l.place.at
