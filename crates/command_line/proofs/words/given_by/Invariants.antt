use Rattle.std.proofs.Common.{◌-◌, ◌≤◌, length}
use Rattle.command_line.proofs.Scanning.{Stands}
use Rattle.command_line.proofs.words.given_by.Given as goal

-- the scan goes on from here
abbrev pub invariant-reading : goal.invariant-reading
invariant-reading l = record {
  within : l.at ≤ length l.words;
  stands : Stands l.fn.tool l.words l.given l.at;
}

abbrev pub decreases-reading : goal.decreases-reading
decreases-reading l = length l.words - l.at
