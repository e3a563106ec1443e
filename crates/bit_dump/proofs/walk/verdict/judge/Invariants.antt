use Rattle.std.proofs.Common.{length}
use Rattle.bit_dump.proofs.OnWalk.Judging.{Comes}
use Rattle.bit_dump.proofs.walk.verdict.judge.Given as goal

abbrev pub invariant-judging : goal.invariant-judging
invariant-judging l = Comes l.bytes l.scope l.cursor l.kept.start l.kept.abbreviation

abbrev pub decreases-judging : goal.decreases-judging
decreases-judging l = length l.cursor.rest
