use Rattle.std.proofs.Common.{◌≡◌, false, length}
use Rattle.record_read.specs.Reader.{IsReader}
use Rattle.record_read.proofs.Passing.{IsPassing}
use Rattle.record_read.proofs.reader.RecordReader.pass_block.Given as goal

abbrev pub invariant-pieces : goal.invariant-pieces
invariant-pieces l = IsPassing l.initial.self-inside.walker l.self-inside.walker l.unclosed × (l.self-inside.at ≡ l.initial.self-inside.at) × IsReader l.self-inside.stopped l.self-inside.broken × (l.self-inside.overrun ≡ false)

abbrev pub decreases-pieces : goal.decreases-pieces
decreases-pieces l = length l.self-inside.walker.left
